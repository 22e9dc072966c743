-- The grammar on examples: what the tokens of statements are read as; above each stands its text. Reading finds exactly the trees of the grammar.
use Rattle.std.proofs.Common.{◌≡◌, ℕ, Bool, true, false, List, [], ◌∷◌, Option, Some, None, pos, negsuc, codes, refl}
use Rattle.sj_base.specs.Options.{◌>>=◌}
use Rattle.sj_path_tree.specs.declared.parts.Literal.TheVariants as l
use Rattle.sj_value.specs.declared.types.SqlType.TheVariants as sql
use Rattle.sj_value.specs.declared.clauses.Wrapper.TheVariants as wrapper
use Rattle.sj_value.specs.declared.clauses.QueryAction.TheVariants as on_query
use Rattle.sj_value.specs.declared.clauses.ExistsAction.TheVariants as on_exists
use Rattle.sj_value.specs.declared.clauses.TableAction.TheVariants as on_table
use Rattle.sj_value.specs.declared.clauses.Nulls.TheVariants as nulls
use Rattle.sj_value.specs.declared.clauses.JsonKind.{JsonKind}
use Rattle.sj_value.specs.declared.clauses.JsonKind.TheVariants as json
use Rattle.sj_sql_token.specs.declared.token.Token.{Token}
use Rattle.sj_sql_token.specs.declared.token.Token.TheVariants as k
use Rattle.sj_sql_token.specs.declared.keyword.Keyword.{Keyword}
use Rattle.sj_sql_token.specs.declared.keyword.Keyword.TheVariants as w
use Rattle.sj_sql_grammar.specs.declared.clauses.Encoding.TheVariants.{Read, Refused}
use Rattle.sj_sql_grammar.specs.declared.clauses.TypeName.{TypeName}
use Rattle.sj_sql_grammar.specs.declared.clauses.TypeName.TheVariants.{Known, Approximate, Datetime}
use Rattle.sj_sql_grammar.specs.declared.clauses.ValueDo.TheVariants as on_value
use Rattle.sj_sql_grammar.specs.declared.clauses.Quotes.TheVariants as quotes
use Rattle.sj_sql_grammar.specs.declared.clauses.InOut.TheVariants as in_out
use Rattle.sj_sql_grammar.specs.declared.clauses.Siblings.TheVariants as siblings
use Rattle.sj_sql_grammar.specs.Tree.{PathText, Written, OfName, Common, Value, Lit, Column, Exists, ValueOf, Query, IsJson, Object, Array, NoValues, MoreValues, NoMembers, MoreMembers, Single, ArrayAgg, ObjectAgg, Ordinality, Regular, Formatted, Existence, Nested, Columns, Last, More, NamedPlan, PathOf, Outer, Inner, Union, Cross, PlanTree, Default, Named, Statement, Plain, All, Listed}
use Rattle.sj_sql_grammar.specs.Phrases.{Tokens, literal_at, type_from, type_at, encoding_at, format_at, passed_at, exists_clause_at, returning_at, value_clause_at, query_clause_at, wrapper_at, quotes_at, not_at, unique_at, nulls_at, alias_at, table_alias_at, path_name_at, path_at, nested_path_at, formatted_at, existence_at, table_clause_at, default_at}
use Rattle.sj_sql_grammar.specs.Notes.{written}
use Rattle.sj_sql_grammar.specs.Reading.{list_from, document_at, passing_at, query_clauses_at, kind_at, is_json_at, plan_parens_at, plan_prim_at, union_from, cross_from, joined_at, named_plan_at, plan_over, plan_expr_at, plan_at, common_at, exists_from, value_from, query_from, values_from, member_value_at, keyed_at, valued_at, member_at, members_from, members_to_end, object_from, values_to_end, array_from, asking_at, value_over, value_at, regular_at, formatted_from, existence_from, named_column_at, nested_from, column_at, columns_from, columns_over, columns_at, row_path_at, table_at, plain_item_at, array_agg_from, object_agg_from, row_item_at, listed_item_at, items_from, all_at, listed_at, plain_at, select_at}

-- ---- tokens and trees, briefly

-- the tree of the tokens of one statement
abbrev tree : Tokens → Option (Statement PathText)
tree ts = select_at written tt ts >>= λ x. Some x.0

-- a keyword, however it is spelt, and a word that is none
abbrev the : Keyword → Token
the v = k.Word v []

abbrev named : List ℕ → Token
named name = k.Word w.Other name

abbrev whole : ℕ → Token
whole n = k.Whole (pos n, 0)

abbrev of_doc : List ℕ → Common PathText
of_doc path = record { encoding = Read; path = Written path; passing = [] }

abbrev one : Value PathText → Option (Statement PathText)
one x = Some (Plain (x ∷ []))

abbrev num : ℕ → Value PathText
num n = Lit (l.Num (pos n, 0))

abbrev text : List ℕ → Value PathText
text s = Lit (l.Text s)

abbrev is_json : Bool → JsonKind → Bool → Value PathText
is_json not kind unique = IsJson (record { negated = not; kind = kind; unique = unique })

-- an object with one member
abbrev member : Value PathText → Value PathText → Bool → Option (Statement PathText)
member x y unique = one (Object (MoreMembers x y NoMembers) nulls.Null unique)

-- JSON_VALUE of the root with this type, and no further clause
abbrev typed : TypeName → Option (Statement PathText)
typed ty = one (ValueOf (record { common = of_doc (codes "$"); ty = ty; on_empty = on_value.Null; on_error = on_value.Null }))

abbrev column : List ℕ → TypeName → List ℕ → Columns PathText
column name ty path = Last (Regular (record { name = name; ty = ty; path = OfName path; on_empty = on_value.Null; on_error = on_value.Null }))

abbrev a_column : Columns PathText
a_column = column (codes "a") (Known sql.Varchar) (codes "a")

-- all columns of a table on the root
abbrev all : Columns PathText → PlanTree → Option (Statement PathText)
all columns plan = Some (All (record { common = of_doc (codes "$"); name = None; columns = columns; plan = plan; on_error = on_table.Empty }))

abbrev default : PlanTree
default = Default in_out.Outer siblings.Union

-- a plan of one column
abbrev planned : NamedPlan → Option (Statement PathText)
planned plan = all a_column (Named plan)

-- ---- literals and signs

-- select 01
a_number : tree (k.Word w.Select (codes "select") ∷ whole 1 ∷ []) ≡ one (num 1)
unfolding literal_at type_from type_at encoding_at format_at passed_at exists_clause_at returning_at value_clause_at query_clause_at wrapper_at quotes_at not_at unique_at nulls_at alias_at table_alias_at path_name_at path_at nested_path_at formatted_at existence_at table_clause_at default_at list_from document_at passing_at query_clauses_at kind_at is_json_at plan_parens_at plan_prim_at union_from cross_from joined_at named_plan_at plan_over plan_expr_at plan_at common_at exists_from value_from query_from values_from member_value_at keyed_at valued_at member_at members_from members_to_end object_from values_to_end array_from asking_at value_over value_at regular_at formatted_from existence_from named_column_at nested_from column_at columns_from columns_over columns_at row_path_at table_at plain_item_at array_agg_from object_agg_from row_item_at listed_item_at items_from all_at listed_at plain_at select_at
a_number = refl

-- Select -1.50
negative : tree (k.Word w.Select (codes "Select") ∷ k.Minus ∷ k.Fraction (pos 15, 1) ∷ []) ≡ one (Lit (l.Num (negsuc 14, 1)))
unfolding literal_at type_from type_at encoding_at format_at passed_at exists_clause_at returning_at value_clause_at query_clause_at wrapper_at quotes_at not_at unique_at nulls_at alias_at table_alias_at path_name_at path_at nested_path_at formatted_at existence_at table_clause_at default_at list_from document_at passing_at query_clauses_at kind_at is_json_at plan_parens_at plan_prim_at union_from cross_from joined_at named_plan_at plan_over plan_expr_at plan_at common_at exists_from value_from query_from values_from member_value_at keyed_at valued_at member_at members_from members_to_end object_from values_to_end array_from asking_at value_over value_at regular_at formatted_from existence_from named_column_at nested_from column_at columns_from columns_over columns_at row_path_at table_at plain_item_at array_agg_from object_agg_from row_item_at listed_item_at items_from all_at listed_at plain_at select_at
negative = refl

-- SELECT +2
positive : tree (the w.Select ∷ k.Plus ∷ whole 2 ∷ []) ≡ one (num 2)
unfolding literal_at type_from type_at encoding_at format_at passed_at exists_clause_at returning_at value_clause_at query_clause_at wrapper_at quotes_at not_at unique_at nulls_at alias_at table_alias_at path_name_at path_at nested_path_at formatted_at existence_at table_clause_at default_at list_from document_at passing_at query_clauses_at kind_at is_json_at plan_parens_at plan_prim_at union_from cross_from joined_at named_plan_at plan_over plan_expr_at plan_at common_at exists_from value_from query_from values_from member_value_at keyed_at valued_at member_at members_from members_to_end object_from values_to_end array_from asking_at value_over value_at regular_at formatted_from existence_from named_column_at nested_from column_at columns_from columns_over columns_at row_path_at table_at plain_item_at array_agg_from object_agg_from row_item_at listed_item_at items_from all_at listed_at plain_at select_at
positive = refl

-- SELECT 'it''s' AS x, TRUE, null AS "y"
items : tree (the w.Select ∷ k.String (codes "it's") ∷ the w.As ∷ named (codes "x") ∷ k.Comma ∷ the w.True ∷ k.Comma ∷ k.Word w.Null (codes "null") ∷ the w.As ∷ k.Quoted (codes "y") ∷ []) ≡ Some (Plain (text (codes "it's") ∷ Lit (l.Bool true) ∷ Lit l.Null ∷ []))
unfolding literal_at type_from type_at encoding_at format_at passed_at exists_clause_at returning_at value_clause_at query_clause_at wrapper_at quotes_at not_at unique_at nulls_at alias_at table_alias_at path_name_at path_at nested_path_at formatted_at existence_at table_clause_at default_at list_from document_at passing_at query_clauses_at kind_at is_json_at plan_parens_at plan_prim_at union_from cross_from joined_at named_plan_at plan_over plan_expr_at plan_at common_at exists_from value_from query_from values_from member_value_at keyed_at valued_at member_at members_from members_to_end object_from values_to_end array_from asking_at value_over value_at regular_at formatted_from existence_from named_column_at nested_from column_at columns_from columns_over columns_at row_path_at table_at plain_item_at array_agg_from object_agg_from row_item_at listed_item_at items_from all_at listed_at plain_at select_at
items = refl

-- SELECT
no_item : tree (the w.Select ∷ []) ≡ None
unfolding literal_at type_from type_at encoding_at format_at passed_at exists_clause_at returning_at value_clause_at query_clause_at wrapper_at quotes_at not_at unique_at nulls_at alias_at table_alias_at path_name_at path_at nested_path_at formatted_at existence_at table_clause_at default_at list_from document_at passing_at query_clauses_at kind_at is_json_at plan_parens_at plan_prim_at union_from cross_from joined_at named_plan_at plan_over plan_expr_at plan_at common_at exists_from value_from query_from values_from member_value_at keyed_at valued_at member_at members_from members_to_end object_from values_to_end array_from asking_at value_over value_at regular_at formatted_from existence_from named_column_at nested_from column_at columns_from columns_over columns_at row_path_at table_at plain_item_at array_agg_from object_agg_from row_item_at listed_item_at items_from all_at listed_at plain_at select_at
no_item = refl

-- SELECT 1 2
two_numbers : tree (the w.Select ∷ whole 1 ∷ whole 2 ∷ []) ≡ None
unfolding literal_at type_from type_at encoding_at format_at passed_at exists_clause_at returning_at value_clause_at query_clause_at wrapper_at quotes_at not_at unique_at nulls_at alias_at table_alias_at path_name_at path_at nested_path_at formatted_at existence_at table_clause_at default_at list_from document_at passing_at query_clauses_at kind_at is_json_at plan_parens_at plan_prim_at union_from cross_from joined_at named_plan_at plan_over plan_expr_at plan_at common_at exists_from value_from query_from values_from member_value_at keyed_at valued_at member_at members_from members_to_end object_from values_to_end array_from asking_at value_over value_at regular_at formatted_from existence_from named_column_at nested_from column_at columns_from columns_over columns_at row_path_at table_at plain_item_at array_agg_from object_agg_from row_item_at listed_item_at items_from all_at listed_at plain_at select_at
two_numbers = refl

-- SELECT - -1
two_signs : tree (the w.Select ∷ k.Minus ∷ k.Minus ∷ whole 1 ∷ []) ≡ None
unfolding literal_at type_from type_at encoding_at format_at passed_at exists_clause_at returning_at value_clause_at query_clause_at wrapper_at quotes_at not_at unique_at nulls_at alias_at table_alias_at path_name_at path_at nested_path_at formatted_at existence_at table_clause_at default_at list_from document_at passing_at query_clauses_at kind_at is_json_at plan_parens_at plan_prim_at union_from cross_from joined_at named_plan_at plan_over plan_expr_at plan_at common_at exists_from value_from query_from values_from member_value_at keyed_at valued_at member_at members_from members_to_end object_from values_to_end array_from asking_at value_over value_at regular_at formatted_from existence_from named_column_at nested_from column_at columns_from columns_over columns_at row_path_at table_at plain_item_at array_agg_from object_agg_from row_item_at listed_item_at items_from all_at listed_at plain_at select_at
two_signs = refl

-- SELECT    2
a_comment : tree (the w.Select ∷ whole 2 ∷ []) ≡ one (num 2)
unfolding literal_at type_from type_at encoding_at format_at passed_at exists_clause_at returning_at value_clause_at query_clause_at wrapper_at quotes_at not_at unique_at nulls_at alias_at table_alias_at path_name_at path_at nested_path_at formatted_at existence_at table_clause_at default_at list_from document_at passing_at query_clauses_at kind_at is_json_at plan_parens_at plan_prim_at union_from cross_from joined_at named_plan_at plan_over plan_expr_at plan_at common_at exists_from value_from query_from values_from member_value_at keyed_at valued_at member_at members_from members_to_end object_from values_to_end array_from asking_at value_over value_at regular_at formatted_from existence_from named_column_at nested_from column_at columns_from columns_over columns_at row_path_at table_at plain_item_at array_agg_from object_agg_from row_item_at listed_item_at items_from all_at listed_at plain_at select_at
a_comment = refl

-- SELECT a
no_column : tree (the w.Select ∷ named (codes "a") ∷ []) ≡ None
unfolding literal_at type_from type_at encoding_at format_at passed_at exists_clause_at returning_at value_clause_at query_clause_at wrapper_at quotes_at not_at unique_at nulls_at alias_at table_alias_at path_name_at path_at nested_path_at formatted_at existence_at table_clause_at default_at list_from document_at passing_at query_clauses_at kind_at is_json_at plan_parens_at plan_prim_at union_from cross_from joined_at named_plan_at plan_over plan_expr_at plan_at common_at exists_from value_from query_from values_from member_value_at keyed_at valued_at member_at members_from members_to_end object_from values_to_end array_from asking_at value_over value_at regular_at formatted_from existence_from named_column_at nested_from column_at columns_from columns_over columns_at row_path_at table_at plain_item_at array_agg_from object_agg_from row_item_at listed_item_at items_from all_at listed_at plain_at select_at
no_column = refl

-- SELECT 1 AS from
no_alias : tree (the w.Select ∷ whole 1 ∷ the w.As ∷ k.Word w.From (codes "from") ∷ []) ≡ None
unfolding literal_at type_from type_at encoding_at format_at passed_at exists_clause_at returning_at value_clause_at query_clause_at wrapper_at quotes_at not_at unique_at nulls_at alias_at table_alias_at path_name_at path_at nested_path_at formatted_at existence_at table_clause_at default_at list_from document_at passing_at query_clauses_at kind_at is_json_at plan_parens_at plan_prim_at union_from cross_from joined_at named_plan_at plan_over plan_expr_at plan_at common_at exists_from value_from query_from values_from member_value_at keyed_at valued_at member_at members_from members_to_end object_from values_to_end array_from asking_at value_over value_at regular_at formatted_from existence_from named_column_at nested_from column_at columns_from columns_over columns_at row_path_at table_at plain_item_at array_agg_from object_agg_from row_item_at listed_item_at items_from all_at listed_at plain_at select_at
no_alias = refl

-- ---- functions on the document

-- SELECT JSON_EXISTS(doc, 'lax $')
exists : tree (the w.Select ∷ the w.JsonExists ∷ k.Open ∷ named (codes "doc") ∷ k.Comma ∷ k.String (codes "lax $") ∷ k.Close ∷ []) ≡ one (Exists (record { common = of_doc (codes "lax $"); on_error = on_exists.False }))
unfolding literal_at type_from type_at encoding_at format_at passed_at exists_clause_at returning_at value_clause_at query_clause_at wrapper_at quotes_at not_at unique_at nulls_at alias_at table_alias_at path_name_at path_at nested_path_at formatted_at existence_at table_clause_at default_at list_from document_at passing_at query_clauses_at kind_at is_json_at plan_parens_at plan_prim_at union_from cross_from joined_at named_plan_at plan_over plan_expr_at plan_at common_at exists_from value_from query_from values_from member_value_at keyed_at valued_at member_at members_from members_to_end object_from values_to_end array_from asking_at value_over value_at regular_at formatted_from existence_from named_column_at nested_from column_at columns_from columns_over columns_at row_path_at table_at plain_item_at array_agg_from object_agg_from row_item_at listed_item_at items_from all_at listed_at plain_at select_at
exists = refl

-- SELECT json_exists("doc" FORMAT JSON ENCODING UTF8, '$' PASSING 5 AS lim, 'An' AS p TRUE ON ERROR)
exists_whole : tree (the w.Select ∷ k.Word w.JsonExists (codes "json_exists") ∷ k.Open ∷ k.Quoted (codes "doc") ∷ the w.Format ∷ the w.Json ∷ the w.Encoding ∷ the w.Utf8 ∷ k.Comma ∷ k.String (codes "$") ∷ the w.Passing ∷ whole 5 ∷ the w.As ∷ named (codes "lim") ∷ k.Comma ∷ k.String (codes "An") ∷ the w.As ∷ named (codes "p") ∷ the w.True ∷ the w.On ∷ the w.Error ∷ k.Close ∷ []) ≡ one (Exists (record { common = record { encoding = Read; path = Written (codes "$"); passing = record { name = codes "lim"; value = l.Num (pos 5, 0) } ∷ record { name = codes "p"; value = l.Text (codes "An") } ∷ [] }; on_error = on_exists.True }))
unfolding literal_at type_from type_at encoding_at format_at passed_at exists_clause_at returning_at value_clause_at query_clause_at wrapper_at quotes_at not_at unique_at nulls_at alias_at table_alias_at path_name_at path_at nested_path_at formatted_at existence_at table_clause_at default_at list_from document_at passing_at query_clauses_at kind_at is_json_at plan_parens_at plan_prim_at union_from cross_from joined_at named_plan_at plan_over plan_expr_at plan_at common_at exists_from value_from query_from values_from member_value_at keyed_at valued_at member_at members_from members_to_end object_from values_to_end array_from asking_at value_over value_at regular_at formatted_from existence_from named_column_at nested_from column_at columns_from columns_over columns_at row_path_at table_at plain_item_at array_agg_from object_agg_from row_item_at listed_item_at items_from all_at listed_at plain_at select_at
exists_whole = refl

-- SELECT JSON_EXISTS(DOC, '$')
another_document : tree (the w.Select ∷ the w.JsonExists ∷ k.Open ∷ named (codes "DOC") ∷ k.Comma ∷ k.String (codes "$") ∷ k.Close ∷ []) ≡ None
unfolding literal_at type_from type_at encoding_at format_at passed_at exists_clause_at returning_at value_clause_at query_clause_at wrapper_at quotes_at not_at unique_at nulls_at alias_at table_alias_at path_name_at path_at nested_path_at formatted_at existence_at table_clause_at default_at list_from document_at passing_at query_clauses_at kind_at is_json_at plan_parens_at plan_prim_at union_from cross_from joined_at named_plan_at plan_over plan_expr_at plan_at common_at exists_from value_from query_from values_from member_value_at keyed_at valued_at member_at members_from members_to_end object_from values_to_end array_from asking_at value_over value_at regular_at formatted_from existence_from named_column_at nested_from column_at columns_from columns_over columns_at row_path_at table_at plain_item_at array_agg_from object_agg_from row_item_at listed_item_at items_from all_at listed_at plain_at select_at
another_document = refl

-- SELECT JSON_EXISTS(doc FORMAT JSON ENCODING UTF16, '$')
encoded : tree (the w.Select ∷ the w.JsonExists ∷ k.Open ∷ named (codes "doc") ∷ the w.Format ∷ the w.Json ∷ the w.Encoding ∷ the w.Utf16 ∷ k.Comma ∷ k.String (codes "$") ∷ k.Close ∷ []) ≡ one (Exists (record { common = record { encoding = Refused; path = Written (codes "$"); passing = [] }; on_error = on_exists.False }))
unfolding literal_at type_from type_at encoding_at format_at passed_at exists_clause_at returning_at value_clause_at query_clause_at wrapper_at quotes_at not_at unique_at nulls_at alias_at table_alias_at path_name_at path_at nested_path_at formatted_at existence_at table_clause_at default_at list_from document_at passing_at query_clauses_at kind_at is_json_at plan_parens_at plan_prim_at union_from cross_from joined_at named_plan_at plan_over plan_expr_at plan_at common_at exists_from value_from query_from values_from member_value_at keyed_at valued_at member_at members_from members_to_end object_from values_to_end array_from asking_at value_over value_at regular_at formatted_from existence_from named_column_at nested_from column_at columns_from columns_over columns_at row_path_at table_at plain_item_at array_agg_from object_agg_from row_item_at listed_item_at items_from all_at listed_at plain_at select_at
encoded = refl

-- SELECT JSON_VALUE(doc,'$' RETURNING VARCHAR NULL ON EMPTY NULL ON ERROR)
value_default : tree (the w.Select ∷ the w.JsonValue ∷ k.Open ∷ named (codes "doc") ∷ k.Comma ∷ k.String (codes "$") ∷ the w.Returning ∷ the w.Varchar ∷ the w.Null ∷ the w.On ∷ the w.Empty ∷ the w.Null ∷ the w.On ∷ the w.Error ∷ k.Close ∷ []) ≡ typed (Known sql.Varchar)
unfolding literal_at type_from type_at encoding_at format_at passed_at exists_clause_at returning_at value_clause_at query_clause_at wrapper_at quotes_at not_at unique_at nulls_at alias_at table_alias_at path_name_at path_at nested_path_at formatted_at existence_at table_clause_at default_at list_from document_at passing_at query_clauses_at kind_at is_json_at plan_parens_at plan_prim_at union_from cross_from joined_at named_plan_at plan_over plan_expr_at plan_at common_at exists_from value_from query_from values_from member_value_at keyed_at valued_at member_at members_from members_to_end object_from values_to_end array_from asking_at value_over value_at regular_at formatted_from existence_from named_column_at nested_from column_at columns_from columns_over columns_at row_path_at table_at plain_item_at array_agg_from object_agg_from row_item_at listed_item_at items_from all_at listed_at plain_at select_at
value_default = refl

-- SELECT JSON_VALUE(doc,'$' DEFAULT -1 ON EMPTY ERROR ON ERROR)
value_empty : tree (the w.Select ∷ the w.JsonValue ∷ k.Open ∷ named (codes "doc") ∷ k.Comma ∷ k.String (codes "$") ∷ the w.Default ∷ k.Minus ∷ whole 1 ∷ the w.On ∷ the w.Empty ∷ the w.Error ∷ the w.On ∷ the w.Error ∷ k.Close ∷ []) ≡ one (ValueOf (record { common = of_doc (codes "$"); ty = Known sql.Varchar; on_empty = on_value.Default (l.Num (negsuc 0, 0)); on_error = on_value.Error }))
unfolding literal_at type_from type_at encoding_at format_at passed_at exists_clause_at returning_at value_clause_at query_clause_at wrapper_at quotes_at not_at unique_at nulls_at alias_at table_alias_at path_name_at path_at nested_path_at formatted_at existence_at table_clause_at default_at list_from document_at passing_at query_clauses_at kind_at is_json_at plan_parens_at plan_prim_at union_from cross_from joined_at named_plan_at plan_over plan_expr_at plan_at common_at exists_from value_from query_from values_from member_value_at keyed_at valued_at member_at members_from members_to_end object_from values_to_end array_from asking_at value_over value_at regular_at formatted_from existence_from named_column_at nested_from column_at columns_from columns_over columns_at row_path_at table_at plain_item_at array_agg_from object_agg_from row_item_at listed_item_at items_from all_at listed_at plain_at select_at
value_empty = refl

-- SELECT JSON_VALUE(doc,'$' DEFAULT 'x' ON ERROR)
value_error : tree (the w.Select ∷ the w.JsonValue ∷ k.Open ∷ named (codes "doc") ∷ k.Comma ∷ k.String (codes "$") ∷ the w.Default ∷ k.String (codes "x") ∷ the w.On ∷ the w.Error ∷ k.Close ∷ []) ≡ one (ValueOf (record { common = of_doc (codes "$"); ty = Known sql.Varchar; on_empty = on_value.Null; on_error = on_value.Default (l.Text (codes "x")) }))
unfolding literal_at type_from type_at encoding_at format_at passed_at exists_clause_at returning_at value_clause_at query_clause_at wrapper_at quotes_at not_at unique_at nulls_at alias_at table_alias_at path_name_at path_at nested_path_at formatted_at existence_at table_clause_at default_at list_from document_at passing_at query_clauses_at kind_at is_json_at plan_parens_at plan_prim_at union_from cross_from joined_at named_plan_at plan_over plan_expr_at plan_at common_at exists_from value_from query_from values_from member_value_at keyed_at valued_at member_at members_from members_to_end object_from values_to_end array_from asking_at value_over value_at regular_at formatted_from existence_from named_column_at nested_from column_at columns_from columns_over columns_at row_path_at table_at plain_item_at array_agg_from object_agg_from row_item_at listed_item_at items_from all_at listed_at plain_at select_at
value_error = refl

-- SELECT JSON_VALUE(doc,'$' NULL ON ERROR NULL ON EMPTY)
causes_turned : tree (the w.Select ∷ the w.JsonValue ∷ k.Open ∷ named (codes "doc") ∷ k.Comma ∷ k.String (codes "$") ∷ the w.Null ∷ the w.On ∷ the w.Error ∷ the w.Null ∷ the w.On ∷ the w.Empty ∷ k.Close ∷ []) ≡ None
unfolding literal_at type_from type_at encoding_at format_at passed_at exists_clause_at returning_at value_clause_at query_clause_at wrapper_at quotes_at not_at unique_at nulls_at alias_at table_alias_at path_name_at path_at nested_path_at formatted_at existence_at table_clause_at default_at list_from document_at passing_at query_clauses_at kind_at is_json_at plan_parens_at plan_prim_at union_from cross_from joined_at named_plan_at plan_over plan_expr_at plan_at common_at exists_from value_from query_from values_from member_value_at keyed_at valued_at member_at members_from members_to_end object_from values_to_end array_from asking_at value_over value_at regular_at formatted_from existence_from named_column_at nested_from column_at columns_from columns_over columns_at row_path_at table_at plain_item_at array_agg_from object_agg_from row_item_at listed_item_at items_from all_at listed_at plain_at select_at
causes_turned = refl

-- SELECT JSON_QUERY(doc,'$' WITH ARRAY WRAPPER OMIT QUOTES ON SCALAR STRING EMPTY ARRAY ON EMPTY)
query : tree (the w.Select ∷ the w.JsonQuery ∷ k.Open ∷ named (codes "doc") ∷ k.Comma ∷ k.String (codes "$") ∷ the w.With ∷ the w.Array ∷ the w.Wrapper ∷ the w.Omit ∷ the w.Quotes ∷ the w.On ∷ the w.Scalar ∷ the w.String ∷ the w.Empty ∷ the w.Array ∷ the w.On ∷ the w.Empty ∷ k.Close ∷ []) ≡ one (Query (record { common = of_doc (codes "$"); clauses = record { wrapper = wrapper.Unconditional; quotes = quotes.Omit; on_empty = on_query.EmptyArray; on_error = on_query.Null } }))
unfolding literal_at type_from type_at encoding_at format_at passed_at exists_clause_at returning_at value_clause_at query_clause_at wrapper_at quotes_at not_at unique_at nulls_at alias_at table_alias_at path_name_at path_at nested_path_at formatted_at existence_at table_clause_at default_at list_from document_at passing_at query_clauses_at kind_at is_json_at plan_parens_at plan_prim_at union_from cross_from joined_at named_plan_at plan_over plan_expr_at plan_at common_at exists_from value_from query_from values_from member_value_at keyed_at valued_at member_at members_from members_to_end object_from values_to_end array_from asking_at value_over value_at regular_at formatted_from existence_from named_column_at nested_from column_at columns_from columns_over columns_at row_path_at table_at plain_item_at array_agg_from object_agg_from row_item_at listed_item_at items_from all_at listed_at plain_at select_at
query = refl

-- SELECT JSON_QUERY(doc,'$' WITHOUT WRAPPER)
query_default : tree (the w.Select ∷ the w.JsonQuery ∷ k.Open ∷ named (codes "doc") ∷ k.Comma ∷ k.String (codes "$") ∷ the w.Without ∷ the w.Wrapper ∷ k.Close ∷ []) ≡ one (Query (record { common = of_doc (codes "$"); clauses = record { wrapper = wrapper.Without; quotes = quotes.Absent; on_empty = on_query.Null; on_error = on_query.Null } }))
unfolding literal_at type_from type_at encoding_at format_at passed_at exists_clause_at returning_at value_clause_at query_clause_at wrapper_at quotes_at not_at unique_at nulls_at alias_at table_alias_at path_name_at path_at nested_path_at formatted_at existence_at table_clause_at default_at list_from document_at passing_at query_clauses_at kind_at is_json_at plan_parens_at plan_prim_at union_from cross_from joined_at named_plan_at plan_over plan_expr_at plan_at common_at exists_from value_from query_from values_from member_value_at keyed_at valued_at member_at members_from members_to_end object_from values_to_end array_from asking_at value_over value_at regular_at formatted_from existence_from named_column_at nested_from column_at columns_from columns_over columns_at row_path_at table_at plain_item_at array_agg_from object_agg_from row_item_at listed_item_at items_from all_at listed_at plain_at select_at
query_default = refl

-- ---- IS JSON

-- SELECT doc IS NOT JSON OBJECT WITH UNIQUE
is_not_json : tree (the w.Select ∷ named (codes "doc") ∷ the w.Is ∷ the w.Not ∷ the w.Json ∷ the w.Object ∷ the w.With ∷ the w.Unique ∷ []) ≡ one (is_json true json.Object true)
unfolding literal_at type_from type_at encoding_at format_at passed_at exists_clause_at returning_at value_clause_at query_clause_at wrapper_at quotes_at not_at unique_at nulls_at alias_at table_alias_at path_name_at path_at nested_path_at formatted_at existence_at table_clause_at default_at list_from document_at passing_at query_clauses_at kind_at is_json_at plan_parens_at plan_prim_at union_from cross_from joined_at named_plan_at plan_over plan_expr_at plan_at common_at exists_from value_from query_from values_from member_value_at keyed_at valued_at member_at members_from members_to_end object_from values_to_end array_from asking_at value_over value_at regular_at formatted_from existence_from named_column_at nested_from column_at columns_from columns_over columns_at row_path_at table_at plain_item_at array_agg_from object_agg_from row_item_at listed_item_at items_from all_at listed_at plain_at select_at
is_not_json = refl

-- SELECT doc IS JSON VALUE AS x
is_json_value : tree (the w.Select ∷ named (codes "doc") ∷ the w.Is ∷ the w.Json ∷ the w.Value ∷ the w.As ∷ named (codes "x") ∷ []) ≡ one (is_json false json.Value false)
unfolding literal_at type_from type_at encoding_at format_at passed_at exists_clause_at returning_at value_clause_at query_clause_at wrapper_at quotes_at not_at unique_at nulls_at alias_at table_alias_at path_name_at path_at nested_path_at formatted_at existence_at table_clause_at default_at list_from document_at passing_at query_clauses_at kind_at is_json_at plan_parens_at plan_prim_at union_from cross_from joined_at named_plan_at plan_over plan_expr_at plan_at common_at exists_from value_from query_from values_from member_value_at keyed_at valued_at member_at members_from members_to_end object_from values_to_end array_from asking_at value_over value_at regular_at formatted_from existence_from named_column_at nested_from column_at columns_from columns_over columns_at row_path_at table_at plain_item_at array_agg_from object_agg_from row_item_at listed_item_at items_from all_at listed_at plain_at select_at
is_json_value = refl

-- SELECT JSON_OBJECT('k' VALUE doc IS JSON WITH UNIQUE KEYS)
unique_of_is_json : tree (the w.Select ∷ the w.JsonObject ∷ k.Open ∷ k.String (codes "k") ∷ the w.Value ∷ named (codes "doc") ∷ the w.Is ∷ the w.Json ∷ the w.With ∷ the w.Unique ∷ the w.Keys ∷ k.Close ∷ []) ≡ member (text (codes "k")) (is_json false json.Value true) false
unfolding literal_at type_from type_at encoding_at format_at passed_at exists_clause_at returning_at value_clause_at query_clause_at wrapper_at quotes_at not_at unique_at nulls_at alias_at table_alias_at path_name_at path_at nested_path_at formatted_at existence_at table_clause_at default_at list_from document_at passing_at query_clauses_at kind_at is_json_at plan_parens_at plan_prim_at union_from cross_from joined_at named_plan_at plan_over plan_expr_at plan_at common_at exists_from value_from query_from values_from member_value_at keyed_at valued_at member_at members_from members_to_end object_from values_to_end array_from asking_at value_over value_at regular_at formatted_from existence_from named_column_at nested_from column_at columns_from columns_over columns_at row_path_at table_at plain_item_at array_agg_from object_agg_from row_item_at listed_item_at items_from all_at listed_at plain_at select_at
unique_of_is_json = refl

-- SELECT JSON_OBJECT('k' VALUE doc IS JSON NULL ON NULL WITH UNIQUE KEYS)
unique_of_object : tree (the w.Select ∷ the w.JsonObject ∷ k.Open ∷ k.String (codes "k") ∷ the w.Value ∷ named (codes "doc") ∷ the w.Is ∷ the w.Json ∷ the w.Null ∷ the w.On ∷ the w.Null ∷ the w.With ∷ the w.Unique ∷ the w.Keys ∷ k.Close ∷ []) ≡ member (text (codes "k")) (is_json false json.Value false) true
unfolding literal_at type_from type_at encoding_at format_at passed_at exists_clause_at returning_at value_clause_at query_clause_at wrapper_at quotes_at not_at unique_at nulls_at alias_at table_alias_at path_name_at path_at nested_path_at formatted_at existence_at table_clause_at default_at list_from document_at passing_at query_clauses_at kind_at is_json_at plan_parens_at plan_prim_at union_from cross_from joined_at named_plan_at plan_over plan_expr_at plan_at common_at exists_from value_from query_from values_from member_value_at keyed_at valued_at member_at members_from members_to_end object_from values_to_end array_from asking_at value_over value_at regular_at formatted_from existence_from named_column_at nested_from column_at columns_from columns_over columns_at row_path_at table_at plain_item_at array_agg_from object_agg_from row_item_at listed_item_at items_from all_at listed_at plain_at select_at
unique_of_object = refl

-- SELECT JSON_OBJECT('k' VALUE doc IS JSON WITHOUT UNIQUE WITH UNIQUE)
unique_twice : tree (the w.Select ∷ the w.JsonObject ∷ k.Open ∷ k.String (codes "k") ∷ the w.Value ∷ named (codes "doc") ∷ the w.Is ∷ the w.Json ∷ the w.Without ∷ the w.Unique ∷ the w.With ∷ the w.Unique ∷ k.Close ∷ []) ≡ member (text (codes "k")) (is_json false json.Value false) true
unfolding literal_at type_from type_at encoding_at format_at passed_at exists_clause_at returning_at value_clause_at query_clause_at wrapper_at quotes_at not_at unique_at nulls_at alias_at table_alias_at path_name_at path_at nested_path_at formatted_at existence_at table_clause_at default_at list_from document_at passing_at query_clauses_at kind_at is_json_at plan_parens_at plan_prim_at union_from cross_from joined_at named_plan_at plan_over plan_expr_at plan_at common_at exists_from value_from query_from values_from member_value_at keyed_at valued_at member_at members_from members_to_end object_from values_to_end array_from asking_at value_over value_at regular_at formatted_from existence_from named_column_at nested_from column_at columns_from columns_over columns_at row_path_at table_at plain_item_at array_agg_from object_agg_from row_item_at listed_item_at items_from all_at listed_at plain_at select_at
unique_twice = refl

-- SELECT JSON_OBJECT(doc IS JSON VALUE 1)
value_behind_json : tree (the w.Select ∷ the w.JsonObject ∷ k.Open ∷ named (codes "doc") ∷ the w.Is ∷ the w.Json ∷ the w.Value ∷ whole 1 ∷ k.Close ∷ []) ≡ member (is_json false json.Value false) (num 1) false
unfolding literal_at type_from type_at encoding_at format_at passed_at exists_clause_at returning_at value_clause_at query_clause_at wrapper_at quotes_at not_at unique_at nulls_at alias_at table_alias_at path_name_at path_at nested_path_at formatted_at existence_at table_clause_at default_at list_from document_at passing_at query_clauses_at kind_at is_json_at plan_parens_at plan_prim_at union_from cross_from joined_at named_plan_at plan_over plan_expr_at plan_at common_at exists_from value_from query_from values_from member_value_at keyed_at valued_at member_at members_from members_to_end object_from values_to_end array_from asking_at value_over value_at regular_at formatted_from existence_from named_column_at nested_from column_at columns_from columns_over columns_at row_path_at table_at plain_item_at array_agg_from object_agg_from row_item_at listed_item_at items_from all_at listed_at plain_at select_at
value_behind_json = refl

-- SELECT JSON_OBJECT(doc IS JSON VALUE VALUE 1)
value_twice : tree (the w.Select ∷ the w.JsonObject ∷ k.Open ∷ named (codes "doc") ∷ the w.Is ∷ the w.Json ∷ the w.Value ∷ the w.Value ∷ whole 1 ∷ k.Close ∷ []) ≡ member (is_json false json.Value false) (num 1) false
unfolding literal_at type_from type_at encoding_at format_at passed_at exists_clause_at returning_at value_clause_at query_clause_at wrapper_at quotes_at not_at unique_at nulls_at alias_at table_alias_at path_name_at path_at nested_path_at formatted_at existence_at table_clause_at default_at list_from document_at passing_at query_clauses_at kind_at is_json_at plan_parens_at plan_prim_at union_from cross_from joined_at named_plan_at plan_over plan_expr_at plan_at common_at exists_from value_from query_from values_from member_value_at keyed_at valued_at member_at members_from members_to_end object_from values_to_end array_from asking_at value_over value_at regular_at formatted_from existence_from named_column_at nested_from column_at columns_from columns_over columns_at row_path_at table_at plain_item_at array_agg_from object_agg_from row_item_at listed_item_at items_from all_at listed_at plain_at select_at
value_twice = refl

-- SELECT JSON_OBJECT(doc IS JSON VALUE : 1)
value_and_colon : tree (the w.Select ∷ the w.JsonObject ∷ k.Open ∷ named (codes "doc") ∷ the w.Is ∷ the w.Json ∷ the w.Value ∷ k.Colon ∷ whole 1 ∷ k.Close ∷ []) ≡ member (is_json false json.Value false) (num 1) false
unfolding literal_at type_from type_at encoding_at format_at passed_at exists_clause_at returning_at value_clause_at query_clause_at wrapper_at quotes_at not_at unique_at nulls_at alias_at table_alias_at path_name_at path_at nested_path_at formatted_at existence_at table_clause_at default_at list_from document_at passing_at query_clauses_at kind_at is_json_at plan_parens_at plan_prim_at union_from cross_from joined_at named_plan_at plan_over plan_expr_at plan_at common_at exists_from value_from query_from values_from member_value_at keyed_at valued_at member_at members_from members_to_end object_from values_to_end array_from asking_at value_over value_at regular_at formatted_from existence_from named_column_at nested_from column_at columns_from columns_over columns_at row_path_at table_at plain_item_at array_agg_from object_agg_from row_item_at listed_item_at items_from all_at listed_at plain_at select_at
value_and_colon = refl

-- SELECT JSON_OBJECT(doc IS JSON VALUE NULL)
value_null : tree (the w.Select ∷ the w.JsonObject ∷ k.Open ∷ named (codes "doc") ∷ the w.Is ∷ the w.Json ∷ the w.Value ∷ the w.Null ∷ k.Close ∷ []) ≡ member (is_json false json.Value false) (Lit l.Null) false
unfolding literal_at type_from type_at encoding_at format_at passed_at exists_clause_at returning_at value_clause_at query_clause_at wrapper_at quotes_at not_at unique_at nulls_at alias_at table_alias_at path_name_at path_at nested_path_at formatted_at existence_at table_clause_at default_at list_from document_at passing_at query_clauses_at kind_at is_json_at plan_parens_at plan_prim_at union_from cross_from joined_at named_plan_at plan_over plan_expr_at plan_at common_at exists_from value_from query_from values_from member_value_at keyed_at valued_at member_at members_from members_to_end object_from values_to_end array_from asking_at value_over value_at regular_at formatted_from existence_from named_column_at nested_from column_at columns_from columns_over columns_at row_path_at table_at plain_item_at array_agg_from object_agg_from row_item_at listed_item_at items_from all_at listed_at plain_at select_at
value_null = refl

-- SELECT JSON_ARRAY(doc IS JSON VALUE NULL ON NULL)
value_nulls : tree (the w.Select ∷ the w.JsonArray ∷ k.Open ∷ named (codes "doc") ∷ the w.Is ∷ the w.Json ∷ the w.Value ∷ the w.Null ∷ the w.On ∷ the w.Null ∷ k.Close ∷ []) ≡ one (Array (MoreValues (is_json false json.Value false) NoValues) nulls.Null)
unfolding literal_at type_from type_at encoding_at format_at passed_at exists_clause_at returning_at value_clause_at query_clause_at wrapper_at quotes_at not_at unique_at nulls_at alias_at table_alias_at path_name_at path_at nested_path_at formatted_at existence_at table_clause_at default_at list_from document_at passing_at query_clauses_at kind_at is_json_at plan_parens_at plan_prim_at union_from cross_from joined_at named_plan_at plan_over plan_expr_at plan_at common_at exists_from value_from query_from values_from member_value_at keyed_at valued_at member_at members_from members_to_end object_from values_to_end array_from asking_at value_over value_at regular_at formatted_from existence_from named_column_at nested_from column_at columns_from columns_over columns_at row_path_at table_at plain_item_at array_agg_from object_agg_from row_item_at listed_item_at items_from all_at listed_at plain_at select_at
value_nulls = refl

-- ---- constructors

-- SELECT JSON_OBJECT()
no_member : tree (the w.Select ∷ the w.JsonObject ∷ k.Open ∷ k.Close ∷ []) ≡ one (Object NoMembers nulls.Null false)
unfolding literal_at type_from type_at encoding_at format_at passed_at exists_clause_at returning_at value_clause_at query_clause_at wrapper_at quotes_at not_at unique_at nulls_at alias_at table_alias_at path_name_at path_at nested_path_at formatted_at existence_at table_clause_at default_at list_from document_at passing_at query_clauses_at kind_at is_json_at plan_parens_at plan_prim_at union_from cross_from joined_at named_plan_at plan_over plan_expr_at plan_at common_at exists_from value_from query_from values_from member_value_at keyed_at valued_at member_at members_from members_to_end object_from values_to_end array_from asking_at value_over value_at regular_at formatted_from existence_from named_column_at nested_from column_at columns_from columns_over columns_at row_path_at table_at plain_item_at array_agg_from object_agg_from row_item_at listed_item_at items_from all_at listed_at plain_at select_at
no_member = refl

-- SELECT JSON_OBJECT(KEY 'a' VALUE 1, 'b' : 2 ABSENT ON NULL)
a_key : tree (the w.Select ∷ the w.JsonObject ∷ k.Open ∷ the w.Key ∷ k.String (codes "a") ∷ the w.Value ∷ whole 1 ∷ k.Comma ∷ k.String (codes "b") ∷ k.Colon ∷ whole 2 ∷ the w.Absent ∷ the w.On ∷ the w.Null ∷ k.Close ∷ []) ≡ one (Object (MoreMembers (text (codes "a")) (num 1) (MoreMembers (text (codes "b")) (num 2) NoMembers)) nulls.Absent false)
unfolding literal_at type_from type_at encoding_at format_at passed_at exists_clause_at returning_at value_clause_at query_clause_at wrapper_at quotes_at not_at unique_at nulls_at alias_at table_alias_at path_name_at path_at nested_path_at formatted_at existence_at table_clause_at default_at list_from document_at passing_at query_clauses_at kind_at is_json_at plan_parens_at plan_prim_at union_from cross_from joined_at named_plan_at plan_over plan_expr_at plan_at common_at exists_from value_from query_from values_from member_value_at keyed_at valued_at member_at members_from members_to_end object_from values_to_end array_from asking_at value_over value_at regular_at formatted_from existence_from named_column_at nested_from column_at columns_from columns_over columns_at row_path_at table_at plain_item_at array_agg_from object_agg_from row_item_at listed_item_at items_from all_at listed_at plain_at select_at
a_key = refl

-- SELECT JSON_OBJECT(KEY 'a' : 1)
key_and_colon : tree (the w.Select ∷ the w.JsonObject ∷ k.Open ∷ the w.Key ∷ k.String (codes "a") ∷ k.Colon ∷ whole 1 ∷ k.Close ∷ []) ≡ None
unfolding literal_at type_from type_at encoding_at format_at passed_at exists_clause_at returning_at value_clause_at query_clause_at wrapper_at quotes_at not_at unique_at nulls_at alias_at table_alias_at path_name_at path_at nested_path_at formatted_at existence_at table_clause_at default_at list_from document_at passing_at query_clauses_at kind_at is_json_at plan_parens_at plan_prim_at union_from cross_from joined_at named_plan_at plan_over plan_expr_at plan_at common_at exists_from value_from query_from values_from member_value_at keyed_at valued_at member_at members_from members_to_end object_from values_to_end array_from asking_at value_over value_at regular_at formatted_from existence_from named_column_at nested_from column_at columns_from columns_over columns_at row_path_at table_at plain_item_at array_agg_from object_agg_from row_item_at listed_item_at items_from all_at listed_at plain_at select_at
key_and_colon = refl

-- SELECT JSON_ARRAY()
no_value : tree (the w.Select ∷ the w.JsonArray ∷ k.Open ∷ k.Close ∷ []) ≡ one (Array NoValues nulls.Absent)
unfolding literal_at type_from type_at encoding_at format_at passed_at exists_clause_at returning_at value_clause_at query_clause_at wrapper_at quotes_at not_at unique_at nulls_at alias_at table_alias_at path_name_at path_at nested_path_at formatted_at existence_at table_clause_at default_at list_from document_at passing_at query_clauses_at kind_at is_json_at plan_parens_at plan_prim_at union_from cross_from joined_at named_plan_at plan_over plan_expr_at plan_at common_at exists_from value_from query_from values_from member_value_at keyed_at valued_at member_at members_from members_to_end object_from values_to_end array_from asking_at value_over value_at regular_at formatted_from existence_from named_column_at nested_from column_at columns_from columns_over columns_at row_path_at table_at plain_item_at array_agg_from object_agg_from row_item_at listed_item_at items_from all_at listed_at plain_at select_at
no_value = refl

-- SELECT JSON_ARRAY(1, JSON_ARRAY(2) NULL ON NULL)
arrays : tree (the w.Select ∷ the w.JsonArray ∷ k.Open ∷ whole 1 ∷ k.Comma ∷ the w.JsonArray ∷ k.Open ∷ whole 2 ∷ k.Close ∷ the w.Null ∷ the w.On ∷ the w.Null ∷ k.Close ∷ []) ≡ one (Array (MoreValues (num 1) (MoreValues (Array (MoreValues (num 2) NoValues) nulls.Absent) NoValues)) nulls.Null)
unfolding literal_at type_from type_at encoding_at format_at passed_at exists_clause_at returning_at value_clause_at query_clause_at wrapper_at quotes_at not_at unique_at nulls_at alias_at table_alias_at path_name_at path_at nested_path_at formatted_at existence_at table_clause_at default_at list_from document_at passing_at query_clauses_at kind_at is_json_at plan_parens_at plan_prim_at union_from cross_from joined_at named_plan_at plan_over plan_expr_at plan_at common_at exists_from value_from query_from values_from member_value_at keyed_at valued_at member_at members_from members_to_end object_from values_to_end array_from asking_at value_over value_at regular_at formatted_from existence_from named_column_at nested_from column_at columns_from columns_over columns_at row_path_at table_at plain_item_at array_agg_from object_agg_from row_item_at listed_item_at items_from all_at listed_at plain_at select_at
arrays = refl

-- ---- types

-- SELECT JSON_VALUE(doc,'$' RETURNING VARCHAR(0))
varchar_0 : tree (the w.Select ∷ the w.JsonValue ∷ k.Open ∷ named (codes "doc") ∷ k.Comma ∷ k.String (codes "$") ∷ the w.Returning ∷ the w.Varchar ∷ k.Open ∷ whole 0 ∷ k.Close ∷ k.Close ∷ []) ≡ None
unfolding literal_at type_from type_at encoding_at format_at passed_at exists_clause_at returning_at value_clause_at query_clause_at wrapper_at quotes_at not_at unique_at nulls_at alias_at table_alias_at path_name_at path_at nested_path_at formatted_at existence_at table_clause_at default_at list_from document_at passing_at query_clauses_at kind_at is_json_at plan_parens_at plan_prim_at union_from cross_from joined_at named_plan_at plan_over plan_expr_at plan_at common_at exists_from value_from query_from values_from member_value_at keyed_at valued_at member_at members_from members_to_end object_from values_to_end array_from asking_at value_over value_at regular_at formatted_from existence_from named_column_at nested_from column_at columns_from columns_over columns_at row_path_at table_at plain_item_at array_agg_from object_agg_from row_item_at listed_item_at items_from all_at listed_at plain_at select_at
varchar_0 = refl

-- SELECT JSON_VALUE(doc,'$' RETURNING VARCHAR(1000000))
varchar_most : tree (the w.Select ∷ the w.JsonValue ∷ k.Open ∷ named (codes "doc") ∷ k.Comma ∷ k.String (codes "$") ∷ the w.Returning ∷ the w.Varchar ∷ k.Open ∷ whole 1000000 ∷ k.Close ∷ k.Close ∷ []) ≡ typed (Known (sql.VarcharMax 1000000))
unfolding literal_at type_from type_at encoding_at format_at passed_at exists_clause_at returning_at value_clause_at query_clause_at wrapper_at quotes_at not_at unique_at nulls_at alias_at table_alias_at path_name_at path_at nested_path_at formatted_at existence_at table_clause_at default_at list_from document_at passing_at query_clauses_at kind_at is_json_at plan_parens_at plan_prim_at union_from cross_from joined_at named_plan_at plan_over plan_expr_at plan_at common_at exists_from value_from query_from values_from member_value_at keyed_at valued_at member_at members_from members_to_end object_from values_to_end array_from asking_at value_over value_at regular_at formatted_from existence_from named_column_at nested_from column_at columns_from columns_over columns_at row_path_at table_at plain_item_at array_agg_from object_agg_from row_item_at listed_item_at items_from all_at listed_at plain_at select_at
varchar_most = refl

-- SELECT JSON_VALUE(doc,'$' RETURNING VARCHAR(1000001))
varchar_more : tree (the w.Select ∷ the w.JsonValue ∷ k.Open ∷ named (codes "doc") ∷ k.Comma ∷ k.String (codes "$") ∷ the w.Returning ∷ the w.Varchar ∷ k.Open ∷ whole 1000001 ∷ k.Close ∷ k.Close ∷ []) ≡ None
unfolding literal_at type_from type_at encoding_at format_at passed_at exists_clause_at returning_at value_clause_at query_clause_at wrapper_at quotes_at not_at unique_at nulls_at alias_at table_alias_at path_name_at path_at nested_path_at formatted_at existence_at table_clause_at default_at list_from document_at passing_at query_clauses_at kind_at is_json_at plan_parens_at plan_prim_at union_from cross_from joined_at named_plan_at plan_over plan_expr_at plan_at common_at exists_from value_from query_from values_from member_value_at keyed_at valued_at member_at members_from members_to_end object_from values_to_end array_from asking_at value_over value_at regular_at formatted_from existence_from named_column_at nested_from column_at columns_from columns_over columns_at row_path_at table_at plain_item_at array_agg_from object_agg_from row_item_at listed_item_at items_from all_at listed_at plain_at select_at
varchar_more = refl

-- SELECT JSON_VALUE(doc,'$' RETURNING NUMERIC(38,38))
numeric_most : tree (the w.Select ∷ the w.JsonValue ∷ k.Open ∷ named (codes "doc") ∷ k.Comma ∷ k.String (codes "$") ∷ the w.Returning ∷ the w.Numeric ∷ k.Open ∷ whole 38 ∷ k.Comma ∷ whole 38 ∷ k.Close ∷ k.Close ∷ []) ≡ typed (Known (sql.NumericFixed 38 38))
unfolding literal_at type_from type_at encoding_at format_at passed_at exists_clause_at returning_at value_clause_at query_clause_at wrapper_at quotes_at not_at unique_at nulls_at alias_at table_alias_at path_name_at path_at nested_path_at formatted_at existence_at table_clause_at default_at list_from document_at passing_at query_clauses_at kind_at is_json_at plan_parens_at plan_prim_at union_from cross_from joined_at named_plan_at plan_over plan_expr_at plan_at common_at exists_from value_from query_from values_from member_value_at keyed_at valued_at member_at members_from members_to_end object_from values_to_end array_from asking_at value_over value_at regular_at formatted_from existence_from named_column_at nested_from column_at columns_from columns_over columns_at row_path_at table_at plain_item_at array_agg_from object_agg_from row_item_at listed_item_at items_from all_at listed_at plain_at select_at
numeric_most = refl

-- SELECT JSON_VALUE(doc,'$' RETURNING NUMERIC(5,6))
numeric_scale : tree (the w.Select ∷ the w.JsonValue ∷ k.Open ∷ named (codes "doc") ∷ k.Comma ∷ k.String (codes "$") ∷ the w.Returning ∷ the w.Numeric ∷ k.Open ∷ whole 5 ∷ k.Comma ∷ whole 6 ∷ k.Close ∷ k.Close ∷ []) ≡ None
unfolding literal_at type_from type_at encoding_at format_at passed_at exists_clause_at returning_at value_clause_at query_clause_at wrapper_at quotes_at not_at unique_at nulls_at alias_at table_alias_at path_name_at path_at nested_path_at formatted_at existence_at table_clause_at default_at list_from document_at passing_at query_clauses_at kind_at is_json_at plan_parens_at plan_prim_at union_from cross_from joined_at named_plan_at plan_over plan_expr_at plan_at common_at exists_from value_from query_from values_from member_value_at keyed_at valued_at member_at members_from members_to_end object_from values_to_end array_from asking_at value_over value_at regular_at formatted_from existence_from named_column_at nested_from column_at columns_from columns_over columns_at row_path_at table_at plain_item_at array_agg_from object_agg_from row_item_at listed_item_at items_from all_at listed_at plain_at select_at
numeric_scale = refl

-- SELECT JSON_VALUE(doc,'$' RETURNING DECIMAL(39))
numeric_digits : tree (the w.Select ∷ the w.JsonValue ∷ k.Open ∷ named (codes "doc") ∷ k.Comma ∷ k.String (codes "$") ∷ the w.Returning ∷ the w.Decimal ∷ k.Open ∷ whole 39 ∷ k.Close ∷ k.Close ∷ []) ≡ None
unfolding literal_at type_from type_at encoding_at format_at passed_at exists_clause_at returning_at value_clause_at query_clause_at wrapper_at quotes_at not_at unique_at nulls_at alias_at table_alias_at path_name_at path_at nested_path_at formatted_at existence_at table_clause_at default_at list_from document_at passing_at query_clauses_at kind_at is_json_at plan_parens_at plan_prim_at union_from cross_from joined_at named_plan_at plan_over plan_expr_at plan_at common_at exists_from value_from query_from values_from member_value_at keyed_at valued_at member_at members_from members_to_end object_from values_to_end array_from asking_at value_over value_at regular_at formatted_from existence_from named_column_at nested_from column_at columns_from columns_over columns_at row_path_at table_at plain_item_at array_agg_from object_agg_from row_item_at listed_item_at items_from all_at listed_at plain_at select_at
numeric_digits = refl

-- SELECT JSON_VALUE(doc,'$' RETURNING DECIMAL(5))
numeric_alone : tree (the w.Select ∷ the w.JsonValue ∷ k.Open ∷ named (codes "doc") ∷ k.Comma ∷ k.String (codes "$") ∷ the w.Returning ∷ the w.Decimal ∷ k.Open ∷ whole 5 ∷ k.Close ∷ k.Close ∷ []) ≡ typed (Known (sql.NumericFixed 5 0))
unfolding literal_at type_from type_at encoding_at format_at passed_at exists_clause_at returning_at value_clause_at query_clause_at wrapper_at quotes_at not_at unique_at nulls_at alias_at table_alias_at path_name_at path_at nested_path_at formatted_at existence_at table_clause_at default_at list_from document_at passing_at query_clauses_at kind_at is_json_at plan_parens_at plan_prim_at union_from cross_from joined_at named_plan_at plan_over plan_expr_at plan_at common_at exists_from value_from query_from values_from member_value_at keyed_at valued_at member_at members_from members_to_end object_from values_to_end array_from asking_at value_over value_at regular_at formatted_from existence_from named_column_at nested_from column_at columns_from columns_over columns_at row_path_at table_at plain_item_at array_agg_from object_agg_from row_item_at listed_item_at items_from all_at listed_at plain_at select_at
numeric_alone = refl

-- SELECT JSON_VALUE(doc,'$' RETURNING INT)
int : tree (the w.Select ∷ the w.JsonValue ∷ k.Open ∷ named (codes "doc") ∷ k.Comma ∷ k.String (codes "$") ∷ the w.Returning ∷ the w.Int ∷ k.Close ∷ []) ≡ typed (Known sql.Integer)
unfolding literal_at type_from type_at encoding_at format_at passed_at exists_clause_at returning_at value_clause_at query_clause_at wrapper_at quotes_at not_at unique_at nulls_at alias_at table_alias_at path_name_at path_at nested_path_at formatted_at existence_at table_clause_at default_at list_from document_at passing_at query_clauses_at kind_at is_json_at plan_parens_at plan_prim_at union_from cross_from joined_at named_plan_at plan_over plan_expr_at plan_at common_at exists_from value_from query_from values_from member_value_at keyed_at valued_at member_at members_from members_to_end object_from values_to_end array_from asking_at value_over value_at regular_at formatted_from existence_from named_column_at nested_from column_at columns_from columns_over columns_at row_path_at table_at plain_item_at array_agg_from object_agg_from row_item_at listed_item_at items_from all_at listed_at plain_at select_at
int = refl

-- SELECT JSON_VALUE(doc,'$' RETURNING FLOAT(1.5))
float_fraction : tree (the w.Select ∷ the w.JsonValue ∷ k.Open ∷ named (codes "doc") ∷ k.Comma ∷ k.String (codes "$") ∷ the w.Returning ∷ the w.Float ∷ k.Open ∷ k.Fraction (pos 15, 1) ∷ k.Close ∷ k.Close ∷ []) ≡ None
unfolding literal_at type_from type_at encoding_at format_at passed_at exists_clause_at returning_at value_clause_at query_clause_at wrapper_at quotes_at not_at unique_at nulls_at alias_at table_alias_at path_name_at path_at nested_path_at formatted_at existence_at table_clause_at default_at list_from document_at passing_at query_clauses_at kind_at is_json_at plan_parens_at plan_prim_at union_from cross_from joined_at named_plan_at plan_over plan_expr_at plan_at common_at exists_from value_from query_from values_from member_value_at keyed_at valued_at member_at members_from members_to_end object_from values_to_end array_from asking_at value_over value_at regular_at formatted_from existence_from named_column_at nested_from column_at columns_from columns_over columns_at row_path_at table_at plain_item_at array_agg_from object_agg_from row_item_at listed_item_at items_from all_at listed_at plain_at select_at
float_fraction = refl

-- SELECT JSON_VALUE(doc,'$' RETURNING FLOAT(99))
float : tree (the w.Select ∷ the w.JsonValue ∷ k.Open ∷ named (codes "doc") ∷ k.Comma ∷ k.String (codes "$") ∷ the w.Returning ∷ the w.Float ∷ k.Open ∷ whole 99 ∷ k.Close ∷ k.Close ∷ []) ≡ typed Approximate
unfolding literal_at type_from type_at encoding_at format_at passed_at exists_clause_at returning_at value_clause_at query_clause_at wrapper_at quotes_at not_at unique_at nulls_at alias_at table_alias_at path_name_at path_at nested_path_at formatted_at existence_at table_clause_at default_at list_from document_at passing_at query_clauses_at kind_at is_json_at plan_parens_at plan_prim_at union_from cross_from joined_at named_plan_at plan_over plan_expr_at plan_at common_at exists_from value_from query_from values_from member_value_at keyed_at valued_at member_at members_from members_to_end object_from values_to_end array_from asking_at value_over value_at regular_at formatted_from existence_from named_column_at nested_from column_at columns_from columns_over columns_at row_path_at table_at plain_item_at array_agg_from object_agg_from row_item_at listed_item_at items_from all_at listed_at plain_at select_at
float = refl

-- SELECT JSON_VALUE(doc,'$' RETURNING DOUBLE PRECISION)
double : tree (the w.Select ∷ the w.JsonValue ∷ k.Open ∷ named (codes "doc") ∷ k.Comma ∷ k.String (codes "$") ∷ the w.Returning ∷ the w.Double ∷ the w.Precision ∷ k.Close ∷ []) ≡ typed Approximate
unfolding literal_at type_from type_at encoding_at format_at passed_at exists_clause_at returning_at value_clause_at query_clause_at wrapper_at quotes_at not_at unique_at nulls_at alias_at table_alias_at path_name_at path_at nested_path_at formatted_at existence_at table_clause_at default_at list_from document_at passing_at query_clauses_at kind_at is_json_at plan_parens_at plan_prim_at union_from cross_from joined_at named_plan_at plan_over plan_expr_at plan_at common_at exists_from value_from query_from values_from member_value_at keyed_at valued_at member_at members_from members_to_end object_from values_to_end array_from asking_at value_over value_at regular_at formatted_from existence_from named_column_at nested_from column_at columns_from columns_over columns_at row_path_at table_at plain_item_at array_agg_from object_agg_from row_item_at listed_item_at items_from all_at listed_at plain_at select_at
double = refl

-- SELECT JSON_VALUE(doc,'$' RETURNING TIMESTAMP(6))
timestamp : tree (the w.Select ∷ the w.JsonValue ∷ k.Open ∷ named (codes "doc") ∷ k.Comma ∷ k.String (codes "$") ∷ the w.Returning ∷ the w.Timestamp ∷ k.Open ∷ whole 6 ∷ k.Close ∷ k.Close ∷ []) ≡ typed Datetime
unfolding literal_at type_from type_at encoding_at format_at passed_at exists_clause_at returning_at value_clause_at query_clause_at wrapper_at quotes_at not_at unique_at nulls_at alias_at table_alias_at path_name_at path_at nested_path_at formatted_at existence_at table_clause_at default_at list_from document_at passing_at query_clauses_at kind_at is_json_at plan_parens_at plan_prim_at union_from cross_from joined_at named_plan_at plan_over plan_expr_at plan_at common_at exists_from value_from query_from values_from member_value_at keyed_at valued_at member_at members_from members_to_end object_from values_to_end array_from asking_at value_over value_at regular_at formatted_from existence_from named_column_at nested_from column_at columns_from columns_over columns_at row_path_at table_at plain_item_at array_agg_from object_agg_from row_item_at listed_item_at items_from all_at listed_at plain_at select_at
timestamp = refl

-- ---- tables

-- SELECT * FROM JSON_TABLE(doc,'$' COLUMNS (a VARCHAR))
star : tree (the w.Select ∷ k.Star ∷ the w.From ∷ the w.JsonTable ∷ k.Open ∷ named (codes "doc") ∷ k.Comma ∷ k.String (codes "$") ∷ the w.Columns ∷ k.Open ∷ named (codes "a") ∷ the w.Varchar ∷ k.Close ∷ k.Close ∷ []) ≡ all a_column default
unfolding literal_at type_from type_at encoding_at format_at passed_at exists_clause_at returning_at value_clause_at query_clause_at wrapper_at quotes_at not_at unique_at nulls_at alias_at table_alias_at path_name_at path_at nested_path_at formatted_at existence_at table_clause_at default_at list_from document_at passing_at query_clauses_at kind_at is_json_at plan_parens_at plan_prim_at union_from cross_from joined_at named_plan_at plan_over plan_expr_at plan_at common_at exists_from value_from query_from values_from member_value_at keyed_at valued_at member_at members_from members_to_end object_from values_to_end array_from asking_at value_over value_at regular_at formatted_from existence_from named_column_at nested_from column_at columns_from columns_over columns_at row_path_at table_at plain_item_at array_agg_from object_agg_from row_item_at listed_item_at items_from all_at listed_at plain_at select_at
star = refl

-- SELECT * FROM JSON_TABLE(doc,'$' COLUMNS (a VARCHAR)) AS t
star_named : tree (the w.Select ∷ k.Star ∷ the w.From ∷ the w.JsonTable ∷ k.Open ∷ named (codes "doc") ∷ k.Comma ∷ k.String (codes "$") ∷ the w.Columns ∷ k.Open ∷ named (codes "a") ∷ the w.Varchar ∷ k.Close ∷ k.Close ∷ the w.As ∷ named (codes "t") ∷ []) ≡ all a_column default
unfolding literal_at type_from type_at encoding_at format_at passed_at exists_clause_at returning_at value_clause_at query_clause_at wrapper_at quotes_at not_at unique_at nulls_at alias_at table_alias_at path_name_at path_at nested_path_at formatted_at existence_at table_clause_at default_at list_from document_at passing_at query_clauses_at kind_at is_json_at plan_parens_at plan_prim_at union_from cross_from joined_at named_plan_at plan_over plan_expr_at plan_at common_at exists_from value_from query_from values_from member_value_at keyed_at valued_at member_at members_from members_to_end object_from values_to_end array_from asking_at value_over value_at regular_at formatted_from existence_from named_column_at nested_from column_at columns_from columns_over columns_at row_path_at table_at plain_item_at array_agg_from object_agg_from row_item_at listed_item_at items_from all_at listed_at plain_at select_at
star_named = refl

-- SELECT *
star_of_nothing : tree (the w.Select ∷ k.Star ∷ []) ≡ None
unfolding literal_at type_from type_at encoding_at format_at passed_at exists_clause_at returning_at value_clause_at query_clause_at wrapper_at quotes_at not_at unique_at nulls_at alias_at table_alias_at path_name_at path_at nested_path_at formatted_at existence_at table_clause_at default_at list_from document_at passing_at query_clauses_at kind_at is_json_at plan_parens_at plan_prim_at union_from cross_from joined_at named_plan_at plan_over plan_expr_at plan_at common_at exists_from value_from query_from values_from member_value_at keyed_at valued_at member_at members_from members_to_end object_from values_to_end array_from asking_at value_over value_at regular_at formatted_from existence_from named_column_at nested_from column_at columns_from columns_over columns_at row_path_at table_at plain_item_at array_agg_from object_agg_from row_item_at listed_item_at items_from all_at listed_at plain_at select_at
star_of_nothing = refl

-- SELECT a AS b FROM JSON_TABLE(doc,'$' COLUMNS (a VARCHAR)) t
listed_column : tree (the w.Select ∷ named (codes "a") ∷ the w.As ∷ named (codes "b") ∷ the w.From ∷ the w.JsonTable ∷ k.Open ∷ named (codes "doc") ∷ k.Comma ∷ k.String (codes "$") ∷ the w.Columns ∷ k.Open ∷ named (codes "a") ∷ the w.Varchar ∷ k.Close ∷ k.Close ∷ named (codes "t") ∷ []) ≡ Some (Listed (Single (Column (codes "a")) ∷ []) (record { common = of_doc (codes "$"); name = None; columns = a_column; plan = default; on_error = on_table.Empty }))
unfolding literal_at type_from type_at encoding_at format_at passed_at exists_clause_at returning_at value_clause_at query_clause_at wrapper_at quotes_at not_at unique_at nulls_at alias_at table_alias_at path_name_at path_at nested_path_at formatted_at existence_at table_clause_at default_at list_from document_at passing_at query_clauses_at kind_at is_json_at plan_parens_at plan_prim_at union_from cross_from joined_at named_plan_at plan_over plan_expr_at plan_at common_at exists_from value_from query_from values_from member_value_at keyed_at valued_at member_at members_from members_to_end object_from values_to_end array_from asking_at value_over value_at regular_at formatted_from existence_from named_column_at nested_from column_at columns_from columns_over columns_at row_path_at table_at plain_item_at array_agg_from object_agg_from row_item_at listed_item_at items_from all_at listed_at plain_at select_at
listed_column = refl

-- SELECT JSON_ARRAYAGG(a), JSON_OBJECTAGG(KEY 'k' VALUE a WITH UNIQUE KEYS) FROM JSON_TABLE(doc,'$' COLUMNS (a VARCHAR) ERROR ON ERROR)
aggregates : tree (the w.Select ∷ the w.JsonArrayAgg ∷ k.Open ∷ named (codes "a") ∷ k.Close ∷ k.Comma ∷ the w.JsonObjectAgg ∷ k.Open ∷ the w.Key ∷ k.String (codes "k") ∷ the w.Value ∷ named (codes "a") ∷ the w.With ∷ the w.Unique ∷ the w.Keys ∷ k.Close ∷ the w.From ∷ the w.JsonTable ∷ k.Open ∷ named (codes "doc") ∷ k.Comma ∷ k.String (codes "$") ∷ the w.Columns ∷ k.Open ∷ named (codes "a") ∷ the w.Varchar ∷ k.Close ∷ the w.Error ∷ the w.On ∷ the w.Error ∷ k.Close ∷ []) ≡ Some (Listed (ArrayAgg (Column (codes "a")) nulls.Absent ∷ ObjectAgg (text (codes "k")) (Column (codes "a")) nulls.Null true ∷ []) (record { common = of_doc (codes "$"); name = None; columns = a_column; plan = default; on_error = on_table.Error }))
unfolding literal_at type_from type_at encoding_at format_at passed_at exists_clause_at returning_at value_clause_at query_clause_at wrapper_at quotes_at not_at unique_at nulls_at alias_at table_alias_at path_name_at path_at nested_path_at formatted_at existence_at table_clause_at default_at list_from document_at passing_at query_clauses_at kind_at is_json_at plan_parens_at plan_prim_at union_from cross_from joined_at named_plan_at plan_over plan_expr_at plan_at common_at exists_from value_from query_from values_from member_value_at keyed_at valued_at member_at members_from members_to_end object_from values_to_end array_from asking_at value_over value_at regular_at formatted_from existence_from named_column_at nested_from column_at columns_from columns_over columns_at row_path_at table_at plain_item_at array_agg_from object_agg_from row_item_at listed_item_at items_from all_at listed_at plain_at select_at
aggregates = refl

-- SELECT JSON_ARRAYAGG(1)
aggregate_alone : tree (the w.Select ∷ the w.JsonArrayAgg ∷ k.Open ∷ whole 1 ∷ k.Close ∷ []) ≡ None
unfolding literal_at type_from type_at encoding_at format_at passed_at exists_clause_at returning_at value_clause_at query_clause_at wrapper_at quotes_at not_at unique_at nulls_at alias_at table_alias_at path_name_at path_at nested_path_at formatted_at existence_at table_clause_at default_at list_from document_at passing_at query_clauses_at kind_at is_json_at plan_parens_at plan_prim_at union_from cross_from joined_at named_plan_at plan_over plan_expr_at plan_at common_at exists_from value_from query_from values_from member_value_at keyed_at valued_at member_at members_from members_to_end object_from values_to_end array_from asking_at value_over value_at regular_at formatted_from existence_from named_column_at nested_from column_at columns_from columns_over columns_at row_path_at table_at plain_item_at array_agg_from object_agg_from row_item_at listed_item_at items_from all_at listed_at plain_at select_at
aggregate_alone = refl

-- SELECT JSON_EXISTS(doc,'$') FROM JSON_TABLE(doc,'$' COLUMNS (a VARCHAR))
function_over_table : tree (the w.Select ∷ the w.JsonExists ∷ k.Open ∷ named (codes "doc") ∷ k.Comma ∷ k.String (codes "$") ∷ k.Close ∷ the w.From ∷ the w.JsonTable ∷ k.Open ∷ named (codes "doc") ∷ k.Comma ∷ k.String (codes "$") ∷ the w.Columns ∷ k.Open ∷ named (codes "a") ∷ the w.Varchar ∷ k.Close ∷ k.Close ∷ []) ≡ None
unfolding literal_at type_from type_at encoding_at format_at passed_at exists_clause_at returning_at value_clause_at query_clause_at wrapper_at quotes_at not_at unique_at nulls_at alias_at table_alias_at path_name_at path_at nested_path_at formatted_at existence_at table_clause_at default_at list_from document_at passing_at query_clauses_at kind_at is_json_at plan_parens_at plan_prim_at union_from cross_from joined_at named_plan_at plan_over plan_expr_at plan_at common_at exists_from value_from query_from values_from member_value_at keyed_at valued_at member_at members_from members_to_end object_from values_to_end array_from asking_at value_over value_at regular_at formatted_from existence_from named_column_at nested_from column_at columns_from columns_over columns_at row_path_at table_at plain_item_at array_agg_from object_agg_from row_item_at listed_item_at items_from all_at listed_at plain_at select_at
function_over_table = refl

-- SELECT * FROM JSON_TABLE(doc,'$' COLUMNS (value DATE, path FOR ORDINALITY))
words_as_names : tree (the w.Select ∷ k.Star ∷ the w.From ∷ the w.JsonTable ∷ k.Open ∷ named (codes "doc") ∷ k.Comma ∷ k.String (codes "$") ∷ the w.Columns ∷ k.Open ∷ k.Word w.Value (codes "value") ∷ the w.Date ∷ k.Comma ∷ k.Word w.Path (codes "path") ∷ the w.For ∷ the w.Ordinality ∷ k.Close ∷ k.Close ∷ []) ≡ all (More (Regular (record { name = codes "value"; ty = Datetime; path = OfName (codes "value"); on_empty = on_value.Null; on_error = on_value.Null })) (Last (Ordinality (codes "path")))) default
unfolding literal_at type_from type_at encoding_at format_at passed_at exists_clause_at returning_at value_clause_at query_clause_at wrapper_at quotes_at not_at unique_at nulls_at alias_at table_alias_at path_name_at path_at nested_path_at formatted_at existence_at table_clause_at default_at list_from document_at passing_at query_clauses_at kind_at is_json_at plan_parens_at plan_prim_at union_from cross_from joined_at named_plan_at plan_over plan_expr_at plan_at common_at exists_from value_from query_from values_from member_value_at keyed_at valued_at member_at members_from members_to_end object_from values_to_end array_from asking_at value_over value_at regular_at formatted_from existence_from named_column_at nested_from column_at columns_from columns_over columns_at row_path_at table_at plain_item_at array_agg_from object_agg_from row_item_at listed_item_at items_from all_at listed_at plain_at select_at
words_as_names = refl

-- SELECT * FROM JSON_TABLE(doc,'$' COLUMNS (key INT))
reserved_name : tree (the w.Select ∷ k.Star ∷ the w.From ∷ the w.JsonTable ∷ k.Open ∷ named (codes "doc") ∷ k.Comma ∷ k.String (codes "$") ∷ the w.Columns ∷ k.Open ∷ k.Word w.Key (codes "key") ∷ the w.Int ∷ k.Close ∷ k.Close ∷ []) ≡ None
unfolding literal_at type_from type_at encoding_at format_at passed_at exists_clause_at returning_at value_clause_at query_clause_at wrapper_at quotes_at not_at unique_at nulls_at alias_at table_alias_at path_name_at path_at nested_path_at formatted_at existence_at table_clause_at default_at list_from document_at passing_at query_clauses_at kind_at is_json_at plan_parens_at plan_prim_at union_from cross_from joined_at named_plan_at plan_over plan_expr_at plan_at common_at exists_from value_from query_from values_from member_value_at keyed_at valued_at member_at members_from members_to_end object_from values_to_end array_from asking_at value_over value_at regular_at formatted_from existence_from named_column_at nested_from column_at columns_from columns_over columns_at row_path_at table_at plain_item_at array_agg_from object_agg_from row_item_at listed_item_at items_from all_at listed_at plain_at select_at
reserved_name = refl

-- SELECT * FROM JSON_TABLE(doc,'$' COLUMNS (a VARCHAR FORMAT JSON PATH '$.b' KEEP QUOTES))
formatted : tree (the w.Select ∷ k.Star ∷ the w.From ∷ the w.JsonTable ∷ k.Open ∷ named (codes "doc") ∷ k.Comma ∷ k.String (codes "$") ∷ the w.Columns ∷ k.Open ∷ named (codes "a") ∷ the w.Varchar ∷ the w.Format ∷ the w.Json ∷ the w.Path ∷ k.String (codes "$.b") ∷ the w.Keep ∷ the w.Quotes ∷ k.Close ∷ k.Close ∷ []) ≡ all (Last (Formatted (record { name = codes "a"; encoding = Read; path = Written (codes "$.b"); clauses = record { wrapper = wrapper.Without; quotes = quotes.Keep; on_empty = on_query.Null; on_error = on_query.Null } }))) default
unfolding literal_at type_from type_at encoding_at format_at passed_at exists_clause_at returning_at value_clause_at query_clause_at wrapper_at quotes_at not_at unique_at nulls_at alias_at table_alias_at path_name_at path_at nested_path_at formatted_at existence_at table_clause_at default_at list_from document_at passing_at query_clauses_at kind_at is_json_at plan_parens_at plan_prim_at union_from cross_from joined_at named_plan_at plan_over plan_expr_at plan_at common_at exists_from value_from query_from values_from member_value_at keyed_at valued_at member_at members_from members_to_end object_from values_to_end array_from asking_at value_over value_at regular_at formatted_from existence_from named_column_at nested_from column_at columns_from columns_over columns_at row_path_at table_at plain_item_at array_agg_from object_agg_from row_item_at listed_item_at items_from all_at listed_at plain_at select_at
formatted = refl

-- SELECT * FROM JSON_TABLE(doc,'$' COLUMNS (a BOOLEAN EXISTS PATH '$.b' ERROR ON ERROR))
existence : tree (the w.Select ∷ k.Star ∷ the w.From ∷ the w.JsonTable ∷ k.Open ∷ named (codes "doc") ∷ k.Comma ∷ k.String (codes "$") ∷ the w.Columns ∷ k.Open ∷ named (codes "a") ∷ the w.Boolean ∷ the w.Exists ∷ the w.Path ∷ k.String (codes "$.b") ∷ the w.Error ∷ the w.On ∷ the w.Error ∷ k.Close ∷ k.Close ∷ []) ≡ all (Last (Existence (codes "a") (Written (codes "$.b")) on_exists.Error)) default
unfolding literal_at type_from type_at encoding_at format_at passed_at exists_clause_at returning_at value_clause_at query_clause_at wrapper_at quotes_at not_at unique_at nulls_at alias_at table_alias_at path_name_at path_at nested_path_at formatted_at existence_at table_clause_at default_at list_from document_at passing_at query_clauses_at kind_at is_json_at plan_parens_at plan_prim_at union_from cross_from joined_at named_plan_at plan_over plan_expr_at plan_at common_at exists_from value_from query_from values_from member_value_at keyed_at valued_at member_at members_from members_to_end object_from values_to_end array_from asking_at value_over value_at regular_at formatted_from existence_from named_column_at nested_from column_at columns_from columns_over columns_at row_path_at table_at plain_item_at array_agg_from object_agg_from row_item_at listed_item_at items_from all_at listed_at plain_at select_at
existence = refl

-- SELECT * FROM JSON_TABLE(doc,'$' COLUMNS (exists BOOLEAN EXISTS, boolean BOOLEAN))
existence_of_name : tree (the w.Select ∷ k.Star ∷ the w.From ∷ the w.JsonTable ∷ k.Open ∷ named (codes "doc") ∷ k.Comma ∷ k.String (codes "$") ∷ the w.Columns ∷ k.Open ∷ k.Word w.Exists (codes "exists") ∷ the w.Boolean ∷ the w.Exists ∷ k.Comma ∷ k.Word w.Boolean (codes "boolean") ∷ the w.Boolean ∷ k.Close ∷ k.Close ∷ []) ≡ all (More (Existence (codes "exists") (OfName (codes "exists")) on_exists.False) (column (codes "boolean") (Known sql.Boolean) (codes "boolean"))) default
unfolding literal_at type_from type_at encoding_at format_at passed_at exists_clause_at returning_at value_clause_at query_clause_at wrapper_at quotes_at not_at unique_at nulls_at alias_at table_alias_at path_name_at path_at nested_path_at formatted_at existence_at table_clause_at default_at list_from document_at passing_at query_clauses_at kind_at is_json_at plan_parens_at plan_prim_at union_from cross_from joined_at named_plan_at plan_over plan_expr_at plan_at common_at exists_from value_from query_from values_from member_value_at keyed_at valued_at member_at members_from members_to_end object_from values_to_end array_from asking_at value_over value_at regular_at formatted_from existence_from named_column_at nested_from column_at columns_from columns_over columns_at row_path_at table_at plain_item_at array_agg_from object_agg_from row_item_at listed_item_at items_from all_at listed_at plain_at select_at
existence_of_name = refl

-- SELECT * FROM JSON_TABLE(doc,'$' COLUMNS (a INTEGER EXISTS))
existence_of_number : tree (the w.Select ∷ k.Star ∷ the w.From ∷ the w.JsonTable ∷ k.Open ∷ named (codes "doc") ∷ k.Comma ∷ k.String (codes "$") ∷ the w.Columns ∷ k.Open ∷ named (codes "a") ∷ the w.Integer ∷ the w.Exists ∷ k.Close ∷ k.Close ∷ []) ≡ None
unfolding literal_at type_from type_at encoding_at format_at passed_at exists_clause_at returning_at value_clause_at query_clause_at wrapper_at quotes_at not_at unique_at nulls_at alias_at table_alias_at path_name_at path_at nested_path_at formatted_at existence_at table_clause_at default_at list_from document_at passing_at query_clauses_at kind_at is_json_at plan_parens_at plan_prim_at union_from cross_from joined_at named_plan_at plan_over plan_expr_at plan_at common_at exists_from value_from query_from values_from member_value_at keyed_at valued_at member_at members_from members_to_end object_from values_to_end array_from asking_at value_over value_at regular_at formatted_from existence_from named_column_at nested_from column_at columns_from columns_over columns_at row_path_at table_at plain_item_at array_agg_from object_agg_from row_item_at listed_item_at items_from all_at listed_at plain_at select_at
existence_of_number = refl

-- SELECT * FROM JSON_TABLE(doc,'$' COLUMNS (a BOOLEAN EXISTS FALSE ON EMPTY))
existence_on_empty : tree (the w.Select ∷ k.Star ∷ the w.From ∷ the w.JsonTable ∷ k.Open ∷ named (codes "doc") ∷ k.Comma ∷ k.String (codes "$") ∷ the w.Columns ∷ k.Open ∷ named (codes "a") ∷ the w.Boolean ∷ the w.Exists ∷ the w.False ∷ the w.On ∷ the w.Empty ∷ k.Close ∷ k.Close ∷ []) ≡ None
unfolding literal_at type_from type_at encoding_at format_at passed_at exists_clause_at returning_at value_clause_at query_clause_at wrapper_at quotes_at not_at unique_at nulls_at alias_at table_alias_at path_name_at path_at nested_path_at formatted_at existence_at table_clause_at default_at list_from document_at passing_at query_clauses_at kind_at is_json_at plan_parens_at plan_prim_at union_from cross_from joined_at named_plan_at plan_over plan_expr_at plan_at common_at exists_from value_from query_from values_from member_value_at keyed_at valued_at member_at members_from members_to_end object_from values_to_end array_from asking_at value_over value_at regular_at formatted_from existence_from named_column_at nested_from column_at columns_from columns_over columns_at row_path_at table_at plain_item_at array_agg_from object_agg_from row_item_at listed_item_at items_from all_at listed_at plain_at select_at
existence_on_empty = refl

-- SELECT * FROM JSON_TABLE(doc,'$' COLUMNS (NESTED PATH '$.x' AS x COLUMNS (a VARCHAR)))
nested : tree (the w.Select ∷ k.Star ∷ the w.From ∷ the w.JsonTable ∷ k.Open ∷ named (codes "doc") ∷ k.Comma ∷ k.String (codes "$") ∷ the w.Columns ∷ k.Open ∷ the w.Nested ∷ the w.Path ∷ k.String (codes "$.x") ∷ the w.As ∷ named (codes "x") ∷ the w.Columns ∷ k.Open ∷ named (codes "a") ∷ the w.Varchar ∷ k.Close ∷ k.Close ∷ k.Close ∷ []) ≡ all (Last (Nested (Written (codes "$.x")) (Some (codes "x")) a_column)) default
unfolding literal_at type_from type_at encoding_at format_at passed_at exists_clause_at returning_at value_clause_at query_clause_at wrapper_at quotes_at not_at unique_at nulls_at alias_at table_alias_at path_name_at path_at nested_path_at formatted_at existence_at table_clause_at default_at list_from document_at passing_at query_clauses_at kind_at is_json_at plan_parens_at plan_prim_at union_from cross_from joined_at named_plan_at plan_over plan_expr_at plan_at common_at exists_from value_from query_from values_from member_value_at keyed_at valued_at member_at members_from members_to_end object_from values_to_end array_from asking_at value_over value_at regular_at formatted_from existence_from named_column_at nested_from column_at columns_from columns_over columns_at row_path_at table_at plain_item_at array_agg_from object_agg_from row_item_at listed_item_at items_from all_at listed_at plain_at select_at
nested = refl

-- ---- plans

-- SELECT * FROM JSON_TABLE(doc,'$' COLUMNS (a VARCHAR) PLAN DEFAULT (CROSS))
plan_default : tree (the w.Select ∷ k.Star ∷ the w.From ∷ the w.JsonTable ∷ k.Open ∷ named (codes "doc") ∷ k.Comma ∷ k.String (codes "$") ∷ the w.Columns ∷ k.Open ∷ named (codes "a") ∷ the w.Varchar ∷ k.Close ∷ the w.Plan ∷ the w.Default ∷ k.Open ∷ the w.Cross ∷ k.Close ∷ k.Close ∷ []) ≡ all a_column (Default in_out.Outer siblings.Cross)
unfolding literal_at type_from type_at encoding_at format_at passed_at exists_clause_at returning_at value_clause_at query_clause_at wrapper_at quotes_at not_at unique_at nulls_at alias_at table_alias_at path_name_at path_at nested_path_at formatted_at existence_at table_clause_at default_at list_from document_at passing_at query_clauses_at kind_at is_json_at plan_parens_at plan_prim_at union_from cross_from joined_at named_plan_at plan_over plan_expr_at plan_at common_at exists_from value_from query_from values_from member_value_at keyed_at valued_at member_at members_from members_to_end object_from values_to_end array_from asking_at value_over value_at regular_at formatted_from existence_from named_column_at nested_from column_at columns_from columns_over columns_at row_path_at table_at plain_item_at array_agg_from object_agg_from row_item_at listed_item_at items_from all_at listed_at plain_at select_at
plan_default = refl

-- SELECT * FROM JSON_TABLE(doc,'$' COLUMNS (a VARCHAR) PLAN DEFAULT (UNION, INNER))
plan_both : tree (the w.Select ∷ k.Star ∷ the w.From ∷ the w.JsonTable ∷ k.Open ∷ named (codes "doc") ∷ k.Comma ∷ k.String (codes "$") ∷ the w.Columns ∷ k.Open ∷ named (codes "a") ∷ the w.Varchar ∷ k.Close ∷ the w.Plan ∷ the w.Default ∷ k.Open ∷ the w.Union ∷ k.Comma ∷ the w.Inner ∷ k.Close ∷ k.Close ∷ []) ≡ all a_column (Default in_out.Inner siblings.Union)
unfolding literal_at type_from type_at encoding_at format_at passed_at exists_clause_at returning_at value_clause_at query_clause_at wrapper_at quotes_at not_at unique_at nulls_at alias_at table_alias_at path_name_at path_at nested_path_at formatted_at existence_at table_clause_at default_at list_from document_at passing_at query_clauses_at kind_at is_json_at plan_parens_at plan_prim_at union_from cross_from joined_at named_plan_at plan_over plan_expr_at plan_at common_at exists_from value_from query_from values_from member_value_at keyed_at valued_at member_at members_from members_to_end object_from values_to_end array_from asking_at value_over value_at regular_at formatted_from existence_from named_column_at nested_from column_at columns_from columns_over columns_at row_path_at table_at plain_item_at array_agg_from object_agg_from row_item_at listed_item_at items_from all_at listed_at plain_at select_at
plan_both = refl

-- SELECT * FROM JSON_TABLE(doc,'$' COLUMNS (a VARCHAR) PLAN (r))
plan_name : tree (the w.Select ∷ k.Star ∷ the w.From ∷ the w.JsonTable ∷ k.Open ∷ named (codes "doc") ∷ k.Comma ∷ k.String (codes "$") ∷ the w.Columns ∷ k.Open ∷ named (codes "a") ∷ the w.Varchar ∷ k.Close ∷ the w.Plan ∷ k.Open ∷ named (codes "r") ∷ k.Close ∷ k.Close ∷ []) ≡ planned (PathOf (codes "r"))
unfolding literal_at type_from type_at encoding_at format_at passed_at exists_clause_at returning_at value_clause_at query_clause_at wrapper_at quotes_at not_at unique_at nulls_at alias_at table_alias_at path_name_at path_at nested_path_at formatted_at existence_at table_clause_at default_at list_from document_at passing_at query_clauses_at kind_at is_json_at plan_parens_at plan_prim_at union_from cross_from joined_at named_plan_at plan_over plan_expr_at plan_at common_at exists_from value_from query_from values_from member_value_at keyed_at valued_at member_at members_from members_to_end object_from values_to_end array_from asking_at value_over value_at regular_at formatted_from existence_from named_column_at nested_from column_at columns_from columns_over columns_at row_path_at table_at plain_item_at array_agg_from object_agg_from row_item_at listed_item_at items_from all_at listed_at plain_at select_at
plan_name = refl

-- SELECT * FROM JSON_TABLE(doc,'$' COLUMNS (a VARCHAR) PLAN (r OUTER (a UNION b UNION c)))
plan_grouped : tree (the w.Select ∷ k.Star ∷ the w.From ∷ the w.JsonTable ∷ k.Open ∷ named (codes "doc") ∷ k.Comma ∷ k.String (codes "$") ∷ the w.Columns ∷ k.Open ∷ named (codes "a") ∷ the w.Varchar ∷ k.Close ∷ the w.Plan ∷ k.Open ∷ named (codes "r") ∷ the w.Outer ∷ k.Open ∷ named (codes "a") ∷ the w.Union ∷ named (codes "b") ∷ the w.Union ∷ named (codes "c") ∷ k.Close ∷ k.Close ∷ k.Close ∷ []) ≡ planned (Outer (codes "r") (Union (Union (PathOf (codes "a")) (PathOf (codes "b"))) (PathOf (codes "c"))))
unfolding literal_at type_from type_at encoding_at format_at passed_at exists_clause_at returning_at value_clause_at query_clause_at wrapper_at quotes_at not_at unique_at nulls_at alias_at table_alias_at path_name_at path_at nested_path_at formatted_at existence_at table_clause_at default_at list_from document_at passing_at query_clauses_at kind_at is_json_at plan_parens_at plan_prim_at union_from cross_from joined_at named_plan_at plan_over plan_expr_at plan_at common_at exists_from value_from query_from values_from member_value_at keyed_at valued_at member_at members_from members_to_end object_from values_to_end array_from asking_at value_over value_at regular_at formatted_from existence_from named_column_at nested_from column_at columns_from columns_over columns_at row_path_at table_at plain_item_at array_agg_from object_agg_from row_item_at listed_item_at items_from all_at listed_at plain_at select_at
plan_grouped = refl

-- SELECT * FROM JSON_TABLE(doc,'$' COLUMNS (a VARCHAR) PLAN ((r INNER a) CROSS b))
plan_inside : tree (the w.Select ∷ k.Star ∷ the w.From ∷ the w.JsonTable ∷ k.Open ∷ named (codes "doc") ∷ k.Comma ∷ k.String (codes "$") ∷ the w.Columns ∷ k.Open ∷ named (codes "a") ∷ the w.Varchar ∷ k.Close ∷ the w.Plan ∷ k.Open ∷ k.Open ∷ named (codes "r") ∷ the w.Inner ∷ named (codes "a") ∷ k.Close ∷ the w.Cross ∷ named (codes "b") ∷ k.Close ∷ k.Close ∷ []) ≡ planned (Cross (Inner (codes "r") (PathOf (codes "a"))) (PathOf (codes "b")))
unfolding literal_at type_from type_at encoding_at format_at passed_at exists_clause_at returning_at value_clause_at query_clause_at wrapper_at quotes_at not_at unique_at nulls_at alias_at table_alias_at path_name_at path_at nested_path_at formatted_at existence_at table_clause_at default_at list_from document_at passing_at query_clauses_at kind_at is_json_at plan_parens_at plan_prim_at union_from cross_from joined_at named_plan_at plan_over plan_expr_at plan_at common_at exists_from value_from query_from values_from member_value_at keyed_at valued_at member_at members_from members_to_end object_from values_to_end array_from asking_at value_over value_at regular_at formatted_from existence_from named_column_at nested_from column_at columns_from columns_over columns_at row_path_at table_at plain_item_at array_agg_from object_agg_from row_item_at listed_item_at items_from all_at listed_at plain_at select_at
plan_inside = refl

-- SELECT * FROM JSON_TABLE(doc,'$' COLUMNS (a VARCHAR) PLAN (union UNION cross))
plan_words : tree (the w.Select ∷ k.Star ∷ the w.From ∷ the w.JsonTable ∷ k.Open ∷ named (codes "doc") ∷ k.Comma ∷ k.String (codes "$") ∷ the w.Columns ∷ k.Open ∷ named (codes "a") ∷ the w.Varchar ∷ k.Close ∷ the w.Plan ∷ k.Open ∷ k.Word w.Union (codes "union") ∷ the w.Union ∷ k.Word w.Cross (codes "cross") ∷ k.Close ∷ k.Close ∷ []) ≡ planned (Union (PathOf (codes "union")) (PathOf (codes "cross")))
unfolding literal_at type_from type_at encoding_at format_at passed_at exists_clause_at returning_at value_clause_at query_clause_at wrapper_at quotes_at not_at unique_at nulls_at alias_at table_alias_at path_name_at path_at nested_path_at formatted_at existence_at table_clause_at default_at list_from document_at passing_at query_clauses_at kind_at is_json_at plan_parens_at plan_prim_at union_from cross_from joined_at named_plan_at plan_over plan_expr_at plan_at common_at exists_from value_from query_from values_from member_value_at keyed_at valued_at member_at members_from members_to_end object_from values_to_end array_from asking_at value_over value_at regular_at formatted_from existence_from named_column_at nested_from column_at columns_from columns_over columns_at row_path_at table_at plain_item_at array_agg_from object_agg_from row_item_at listed_item_at items_from all_at listed_at plain_at select_at
plan_words = refl

-- SELECT * FROM JSON_TABLE(doc,'$' COLUMNS (a VARCHAR) PLAN ((r)))
plan_in_parentheses : tree (the w.Select ∷ k.Star ∷ the w.From ∷ the w.JsonTable ∷ k.Open ∷ named (codes "doc") ∷ k.Comma ∷ k.String (codes "$") ∷ the w.Columns ∷ k.Open ∷ named (codes "a") ∷ the w.Varchar ∷ k.Close ∷ the w.Plan ∷ k.Open ∷ k.Open ∷ named (codes "r") ∷ k.Close ∷ k.Close ∷ k.Close ∷ []) ≡ None
unfolding literal_at type_from type_at encoding_at format_at passed_at exists_clause_at returning_at value_clause_at query_clause_at wrapper_at quotes_at not_at unique_at nulls_at alias_at table_alias_at path_name_at path_at nested_path_at formatted_at existence_at table_clause_at default_at list_from document_at passing_at query_clauses_at kind_at is_json_at plan_parens_at plan_prim_at union_from cross_from joined_at named_plan_at plan_over plan_expr_at plan_at common_at exists_from value_from query_from values_from member_value_at keyed_at valued_at member_at members_from members_to_end object_from values_to_end array_from asking_at value_over value_at regular_at formatted_from existence_from named_column_at nested_from column_at columns_from columns_over columns_at row_path_at table_at plain_item_at array_agg_from object_agg_from row_item_at listed_item_at items_from all_at listed_at plain_at select_at
plan_in_parentheses = refl

-- SELECT * FROM JSON_TABLE(doc,'$' COLUMNS (a VARCHAR) PLAN (r OUTER ((x))))
plan_child_twice : tree (the w.Select ∷ k.Star ∷ the w.From ∷ the w.JsonTable ∷ k.Open ∷ named (codes "doc") ∷ k.Comma ∷ k.String (codes "$") ∷ the w.Columns ∷ k.Open ∷ named (codes "a") ∷ the w.Varchar ∷ k.Close ∷ the w.Plan ∷ k.Open ∷ named (codes "r") ∷ the w.Outer ∷ k.Open ∷ k.Open ∷ named (codes "x") ∷ k.Close ∷ k.Close ∷ k.Close ∷ k.Close ∷ []) ≡ None
unfolding literal_at type_from type_at encoding_at format_at passed_at exists_clause_at returning_at value_clause_at query_clause_at wrapper_at quotes_at not_at unique_at nulls_at alias_at table_alias_at path_name_at path_at nested_path_at formatted_at existence_at table_clause_at default_at list_from document_at passing_at query_clauses_at kind_at is_json_at plan_parens_at plan_prim_at union_from cross_from joined_at named_plan_at plan_over plan_expr_at plan_at common_at exists_from value_from query_from values_from member_value_at keyed_at valued_at member_at members_from members_to_end object_from values_to_end array_from asking_at value_over value_at regular_at formatted_from existence_from named_column_at nested_from column_at columns_from columns_over columns_at row_path_at table_at plain_item_at array_agg_from object_agg_from row_item_at listed_item_at items_from all_at listed_at plain_at select_at
plan_child_twice = refl

-- SELECT * FROM JSON_TABLE(doc,'$' COLUMNS (a VARCHAR) PLAN (r OUTER (x)))
plan_child_once : tree (the w.Select ∷ k.Star ∷ the w.From ∷ the w.JsonTable ∷ k.Open ∷ named (codes "doc") ∷ k.Comma ∷ k.String (codes "$") ∷ the w.Columns ∷ k.Open ∷ named (codes "a") ∷ the w.Varchar ∷ k.Close ∷ the w.Plan ∷ k.Open ∷ named (codes "r") ∷ the w.Outer ∷ k.Open ∷ named (codes "x") ∷ k.Close ∷ k.Close ∷ k.Close ∷ []) ≡ planned (Outer (codes "r") (PathOf (codes "x")))
unfolding literal_at type_from type_at encoding_at format_at passed_at exists_clause_at returning_at value_clause_at query_clause_at wrapper_at quotes_at not_at unique_at nulls_at alias_at table_alias_at path_name_at path_at nested_path_at formatted_at existence_at table_clause_at default_at list_from document_at passing_at query_clauses_at kind_at is_json_at plan_parens_at plan_prim_at union_from cross_from joined_at named_plan_at plan_over plan_expr_at plan_at common_at exists_from value_from query_from values_from member_value_at keyed_at valued_at member_at members_from members_to_end object_from values_to_end array_from asking_at value_over value_at regular_at formatted_from existence_from named_column_at nested_from column_at columns_from columns_over columns_at row_path_at table_at plain_item_at array_agg_from object_agg_from row_item_at listed_item_at items_from all_at listed_at plain_at select_at
plan_child_once = refl

-- SELECT * FROM JSON_TABLE(doc,'$' COLUMNS (a VARCHAR) PLAN (a UNION b CROSS c))
plan_mixed : tree (the w.Select ∷ k.Star ∷ the w.From ∷ the w.JsonTable ∷ k.Open ∷ named (codes "doc") ∷ k.Comma ∷ k.String (codes "$") ∷ the w.Columns ∷ k.Open ∷ named (codes "a") ∷ the w.Varchar ∷ k.Close ∷ the w.Plan ∷ k.Open ∷ named (codes "a") ∷ the w.Union ∷ named (codes "b") ∷ the w.Cross ∷ named (codes "c") ∷ k.Close ∷ k.Close ∷ []) ≡ None
unfolding literal_at type_from type_at encoding_at format_at passed_at exists_clause_at returning_at value_clause_at query_clause_at wrapper_at quotes_at not_at unique_at nulls_at alias_at table_alias_at path_name_at path_at nested_path_at formatted_at existence_at table_clause_at default_at list_from document_at passing_at query_clauses_at kind_at is_json_at plan_parens_at plan_prim_at union_from cross_from joined_at named_plan_at plan_over plan_expr_at plan_at common_at exists_from value_from query_from values_from member_value_at keyed_at valued_at member_at members_from members_to_end object_from values_to_end array_from asking_at value_over value_at regular_at formatted_from existence_from named_column_at nested_from column_at columns_from columns_over columns_at row_path_at table_at plain_item_at array_agg_from object_agg_from row_item_at listed_item_at items_from all_at listed_at plain_at select_at
plan_mixed = refl
