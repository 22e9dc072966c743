-- Moves, and the accessors of a plain path, on an item that is no node.
use Rattle.std.specs.Borrow.{Bor}
use Rattle.std.specs.Prelude.{MatchOption}
use Rattle.sj_doc.specs.Kinds.{kind_of}
use Rattle.sj_doc.specs.declared.node.Kind.TheVariants as kinds
use Rattle.std.proofs.Common.{◌≡◌, ℕ, List, [], ◌∷◌, Bool, true, false, Option, Some, None, ap, sym, ◌∙◌, refl, arith}
use Rattle.sj_path_tree.specs.declared.parts.Mode.TheVariants.{Lax}
use Rattle.sj_item.specs.Items.{ItemValue, item_value, item_tree, pair_item}
use Rattle.sj_item.specs.Pairs.{items_compare}
use Rattle.sj_item.specs.declared.item.Item.{Item}
use Rattle.sj_item.specs.declared.item.Item.TheVariants as items
use Rattle.sj_item.specs.declared.pair.Pair.{Pair}
use Rattle.sj_item.specs.declared.truth.Truth.{Truth}
use Rattle.sj_item.specs.declared.truth.Truth.TheVariants.{False}
use Rattle.sj_step.specs.Literals.{literal_item}
use Rattle.sj_step.specs.Reach.{reach, by_key, unwrap, members_under, members_end}
use Rattle.sj_step.specs.Trace.{Trace, stop, only, each}
use Rattle.sj_step.proofs.Traces.{join-stop}
use Rattle.sj_plain_path.specs.Chains.{below, linked, member_under}
use Rattle.sj_plain_path.specs.Looks.{Finds, none_found, one_found}
use Rattle.sj_plain_path.specs.declared.chain.Link.{Link}
use Rattle.sj_plain_path.specs.declared.chain.Link.TheVariants as links
use Rattle.sj_plain_path.specs.declared.look.Limit.{Limit}
use Rattle.sj_plain_path.specs.declared.look.Limit.TheVariants as limits
use Rattle.sj_plain_path.proofs.Chains.{all_itself, first_itself, none_behind_first}
use Rattle.sj_plain_path.specs.Pairings.{PairingSeen, ItemTruth, pairing_truth}
use Rattle.sj_plain_path.specs.declared.opening.Opening.TheVariants.{AsItIs, Unwrapped}
use Rattle.sj_plain_path.proofs.NotUnwrapped.{made_unopened}
use Rattle.sj_cursor.specs.Decides.{Decides}
use Rattle.sj_cursor.specs.Moves.{moved, tested}
use Rattle.sj_cursor.specs.Trails.{Leads, IsMade, GivesOne, item_left}
use Rattle.sj_cursor.specs.declared.moves.Move.TheVariants as moves
use Rattle.sj_cursor.specs.declared.moves.MemberTest.{MemberTest}
use Rattle.sj_cursor.proofs.ComparisonVerdicts.{right_decides}
use Rattle.sj_cursor.proofs.Trails.{leads_same}

-- ---- the member under a key

pub pair_gives : (x : Item) (p : Pair) (key : List ℕ) (o : Option Item) → x ≡ items.Pair p
    → MatchOption o (members_under Lax key (pair_item p) ≡ members_end Lax false) (λ y. members_under Lax key (pair_item p) ≡ only (item_value y))
    → GivesOne (reach (by_key key) Lax (item_value x)) o
unfolding reach
pair_gives x p key None e h = rw e h
pair_gives x p key (Some y) e h = rw e h

pub other_gives : (x : Item) (key : List ℕ) → IsMade x → ((p : Pair) → x ≡ items.Pair p → ⊥) → reach (by_key key) Lax (item_value x) ≡ stop
unfolding reach
other_gives (items.Node n) key made other = absurd (made n refl)
other_gives (items.Num d) key made other = refl
other_gives (items.Text s) key made other = refl
other_gives (items.NumberText s) key made other = refl
other_gives (items.Bool b) key made other = refl
other_gives items.Null key made other = refl
other_gives (items.Pair p) key made other = absurd (other p refl)

-- ---- a test

member_opened : (x : Item) (key : List ℕ) (t : Trace) → IsMade x → reach (by_key key) Lax (item_value x) ≡ t → below Unwrapped (member_under key ∷ []) (item_value x) ≡ each t (below Unwrapped [])
member_opened x key t made h =
    ap (λ u. each (each u (reach (by_key key) Lax)) (below Unwrapped [])) (made_unopened Lax x made)
    ∙ ap (λ u. each u (below Unwrapped [])) (join-stop (reach (by_key key) Lax (item_value x)))
    ∙ ap (λ u. each u (below Unwrapped [])) h

seen_decides : (m : MemberTest) (x : ItemValue) (t : Trace) (found doubt : Bool) (truth : Truth) (a b : ℕ)
    → item_value m.literal.item ≡ literal_item m.literal.literal.now → below Unwrapped (member_under m.key.now ∷ []) x ≡ t → truth ≡ pairing_truth true found doubt
    → PairingSeen true (λ y. items_compare m.op y (item_value m.literal.item)) t found doubt a b → Decides (tested m x) truth a b
seen_decides m x t found doubt truth a b made h e s =
    right_decides Lax (items_compare m.op) (item_value m.literal.item) _ _ true found doubt truth a b (ap only (sym made)) refl e (rw h s)

pub member_decides : (m : MemberTest) (x y : Item) (found doubt : Bool) (truth : Truth) (a b : ℕ)
    → item_value m.literal.item ≡ literal_item m.literal.literal.now → IsMade x → reach (by_key m.key.now) Lax (item_value x) ≡ only (item_value y) → truth ≡ pairing_truth true found doubt
    → PairingSeen true (λ z. items_compare m.op z (item_value m.literal.item)) (unwrap Lax (item_value y)) found doubt a b → Decides (tested m (item_value x)) truth a b
member_decides m x y found doubt truth a b made is_made h e s =
    seen_decides m (item_value x) (unwrap Lax (item_value y)) found doubt truth a b made
    (member_opened x m.key.now (only (item_value y)) is_made h ∙ join-stop (unwrap Lax (item_value y))) e s

nothing_seen : (test : ItemTruth) (a : ℕ) → PairingSeen true test stop false false a a
nothing_seen test a = record { finds = refl; doubts = λ _. refl; costs = omega arith }

pub none_decides : (m : MemberTest) (x : Item) (a : ℕ)
    → item_value m.literal.item ≡ literal_item m.literal.literal.now → IsMade x → reach (by_key m.key.now) Lax (item_value x) ≡ stop → Decides (tested m (item_value x)) False a a
none_decides m x a made is_made h =
    seen_decides m (item_value x) stop false false False a a made (member_opened x m.key.now stop is_made h) refl (nothing_seen (λ z. items_compare m.op z (item_value m.literal.item)) a)

-- ---- what goes on

pub unwrap_made : (x : Item) (within : ItemValue → Trace) → IsMade x → each (moved moves.Unwrap (item_value x)) within ≡ within (item_value x)
unwrap_made x within made = ap (λ u. each u within) (made_unopened Lax x made) ∙ join-stop (within (item_value x))

pub one_leads : (t : Trace) (o : Option Item) (within : ItemValue → Trace) (a : ℕ) → GivesOne t o → Leads (each t within) a (item_left within o) a
one_leads t None within a h = leads_same _ _ a (ap (λ u. each u within) h)
one_leads t (Some x) within a h = leads_same _ _ a (ap (λ u. each u within) h ∙ join-stop (within (item_value x)))

-- ---- the accessors of a plain path

no_array : (x : Item) → IsMade x → kind_of (item_tree (item_value x)) ≡ kinds.Array → ⊥
no_array (items.Node n) made e = made n refl
no_array (items.Num d) made e = cc
no_array (items.Text s) made e = cc
no_array (items.NumberText s) made e = cc
no_array (items.Bool b) made e = cc
no_array items.Null made e = cc
no_array (items.Pair p) made e = cc

pub member_gives : (x : Item) (key : Bor (List ℕ)) (o : Option Item) → IsMade x → GivesOne (reach (by_key key.now) Lax (item_value x)) o → GivesOne (linked (links.Member key) (item_value x)) o
member_gives x key o made h =
    rw (ap (λ u. each u (reach (by_key key.now) Lax)) (made_unopened Lax x made) ∙ join-stop (reach (by_key key.now) Lax (item_value x))) h

pub all_gives : (x : Item) → IsMade x → linked links.AllElements (item_value x) ≡ only (item_value x)
all_gives x made = all_itself (item_value x) (no_array x made)

pub first_gives : (index : ℕ) (x : Item) → IsMade x → index ≡ 0 → linked (links.Element index) (item_value x) ≡ only (item_value x)
first_gives index x made e = first_itself index (item_value x) (no_array x made) e

pub behind_first_gives : (index : ℕ) (x : Item) → IsMade x → (index ≡ 0 → ⊥) → linked (links.Element index) (item_value x) ≡ stop
behind_first_gives index x made some = none_behind_first index (item_value x) (no_array x made) some

pub lands_on : (l : Link) (rest : List Link) (x y : Item) → GivesOne (linked l (item_value x)) (Some y) → below AsItIs (l ∷ rest) (item_value x) ≡ below AsItIs rest (item_value y)
lands_on l rest x y h = ap (λ u. each u (below AsItIs rest)) h ∙ join-stop (below AsItIs rest (item_value y))

pub lands_nowhere : (l : Link) (rest : List Link) (x : Item) → GivesOne (linked l (item_value x)) None → below AsItIs (l ∷ rest) (item_value x) ≡ stop
lands_nowhere l rest x h = ap (λ u. each u (below AsItIs rest)) h

pub finds_one : (limit : Limit) (x : ItemValue) (a : ℕ) → Finds limit (only x) (record { found = one_found x; fault = None }) a a
finds_one limits.First x a = record { finds = refl; costs = omega arith }
finds_one limits.Second x a = record { finds = refl; costs = omega arith }
finds_one limits.End x a = record { finds = refl; costs = omega arith }

pub finds_none : (limit : Limit) (a : ℕ) → Finds limit stop (record { found = none_found; fault = None }) a a
finds_none limit a = record { finds = refl; costs = omega arith }
