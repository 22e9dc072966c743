-- What the reader of bytes gives is spelled so by the text.
use Rattle.std.proofs.Common.{◌≡◌, ℕ, ◌+◌, ◌<◌, ◌≤◌, max, List, [], ◌∷◌, ◌++◌, length, Bool, true, false, cond, ◌==◌, nat_lt, Option, Some, None, IfSome, option_map, option_and_then, codes, refl, sym, ap, ◌∙◌, subst, append_assoc, arith}
use Rattle.std.specs.List.{AllByRecursion}
use Rattle.std.specs.Char.{encode_utf8}
use Rattle.std.proofs.lemmas.List.{append-nil}
use Rattle.std.proofs.lemmas.Bool.{eqb-true, ltb-true}
use Rattle.sj_base.specs.ByteClasses.{is_plain, is_blank}
use Rattle.sj_json.specs.Tree.{Number, Tree, null, truth, string, number, array, object, Items, no_items, item, Members, no_members, member, depth, items_depth, members_depth}
use Rattle.sj_json.specs.Building.{Part, top, elements, pairs, State, items_push, members_push, put, put_key, with_value, empty, fresh}
use Rattle.sj_json.specs.Strings.{Piece, plain, IsPiece, piece_bytes, piece_text, Writes, Quoted}
use Rattle.sj_json.proofs.Escapes.{Pending, Leads, escape_leads, writes_none, writes_push}
use Rattle.sj_json.specs.Spelling.{IsBlank, Blank, Spaced, Sign, Spells, SpellsItems, SpellsMoreItems, SpellsMembers, SpellsMoreMembers, SpellsText}
use Rattle.sj_decimal.specs.Number.{is_number_byte, begins_number}
use Rattle.sj_json.specs.Numbers.{number_of}
use Rattle.sj_json.proofs.Numbers.{number_sound}
use Rattle.sj_json.specs.Machine.{Mode, value, value_or_close, key, key_or_close, colon, after_value, letters, quoted, escaped, Escape, begun, EscapeStep, wait, char, escape_step, after_step, end_quote, digits, end_number, root, unless_blank, Advance, open_turn, close_turn, start, separate, turn, ending, run, reading}

push_all : {X : Type 0} (P : X → Type 0) (xs : List X) (x : X) → AllByRecursion P xs → P x → AllByRecursion P (xs ++ x ∷ [])
push_all P [] x h p = (p, tt)
push_all P (y ∷ ys) x h p = (h.0, push_all P ys x h.1 p)

-- ---- what the text of a part is, up to a place between two tokens

-- a value has just come
abbrev Done : Part → List ℕ → Type 0
Done (top None) x = ⊥
Done (top (Some t)) x = Spaced (Spells t) x
Done (elements no_items) x = ⊥
Done (elements (item t ts)) x = SpellsItems (item t ts) x
Done (pairs ms (Some k)) x = ⊥
Done (pairs no_members None) x = ⊥
Done (pairs (member k t ms) None) x = SpellsMembers (member k t ms) x

abbrev AfterComma : Part → List ℕ → Type 0
AfterComma p y = (u : List ℕ) × (v : List ℕ) × Done p u × Spaced (Sign 44) v × (y ≡ u ++ v)

-- an element or a key comes next
abbrev Opening : Part → List ℕ → Type 0
Opening (top o) y = ⊥
Opening (elements no_items) y = y ≡ []
Opening (elements (item t ts)) y = AfterComma (elements (item t ts)) y
Opening (pairs ms (Some k)) y = ⊥
Opening (pairs no_members None) y = y ≡ []
Opening (pairs (member k t ms) None) y = AfterComma (pairs (member k t ms) None) y

abbrev Slot : Part → List ℕ → Type 0
Slot (top None) y = y ≡ []
Slot (top (Some t)) y = ⊥
Slot (elements ts) y = Opening (elements ts) y
Slot (pairs ms None) y = ⊥
Slot (pairs ms (Some k)) y = (u : List ℕ) × (l : List ℕ) × (d : List ℕ) × Opening (pairs ms None) u × Spaced (Quoted k) l × Spaced (Sign 58) d × (y ≡ u ++ (l ++ d))

abbrev KeySlot : Part → List ℕ → Type 0
KeySlot (top o) y = ⊥
KeySlot (elements ts) y = ⊥
KeySlot (pairs ms None) y = Opening (pairs ms None) y
KeySlot (pairs ms (Some k)) y = ⊥

abbrev ColonSlot : Part → List ℕ → Type 0
ColonSlot (top o) y = ⊥
ColonSlot (elements ts) y = ⊥
ColonSlot (pairs ms None) y = ⊥
ColonSlot (pairs ms (Some k)) y = (u : List ℕ) × (l : List ℕ) × Opening (pairs ms None) u × Spaced (Quoted k) l × (y ≡ u ++ l)

abbrev FreshItems : Part → List ℕ → Type 0
FreshItems (top o) y = ⊥
FreshItems (elements no_items) y = y ≡ []
FreshItems (elements (item t ts)) y = ⊥
FreshItems (pairs ms k) y = ⊥

abbrev FreshMembers : Part → List ℕ → Type 0
FreshMembers (top o) y = ⊥
FreshMembers (elements ts) y = ⊥
FreshMembers (pairs ms (Some k)) y = ⊥
FreshMembers (pairs no_members None) y = y ≡ []
FreshMembers (pairs (member k t ms) None) y = ⊥

-- P, and then white space
abbrev Trail : (List ℕ → Type 0) → List ℕ → Type 0
Trail P x = (y : List ℕ) × (w : List ℕ) × P y × Blank w × (x ≡ y ++ w)

-- before a string: a key, or else a value
abbrev Before : Bool → Part → List ℕ → Type 0
Before false p y = Slot p y
Before true p y = KeySlot p y

-- in a string that has the text a so far, and then the bytes r of an escape
abbrev InString : Bool → List ℕ → Part → List ℕ → List ℕ → Type 0
InString k a p r x = (y : List ℕ) × (w : List ℕ) × (m : List ℕ) × Before k p y × Blank w × Writes a m × (x ≡ y ++ (w ++ (34 ∷ m ++ r)))

abbrev At : Mode → Part → List ℕ → Type 0
At value p x = Trail (Slot p) x
At value_or_close p x = Trail (FreshItems p) x
At key p x = Trail (KeySlot p) x
At key_or_close p x = Trail (FreshMembers p) x
At colon p x = Trail (ColonSlot p) x
At after_value p x = Trail (Done p) x
At (letters r t) p x = (y : List ℕ) × (w : List ℕ) × (l : List ℕ) × Slot p y × Blank w × Spells t (l ++ r) × (depth t ≡ 0) × (x ≡ y ++ (w ++ l))
At (quoted k a) p x = InString k a p [] x
At (escaped k a e) p x = (r : List ℕ) × Pending e r × InString k a p (92 ∷ r) x
At (digits a) p x = (y : List ℕ) × (w : List ℕ) × Slot p y × Blank w × (x ≡ y ++ (w ++ a))

abbrev IsTop : Part → Type 0
IsTop (top o) = Unit {0}
IsTop (elements ts) = ⊥
IsTop (pairs ms k) = ⊥

abbrev bracket : Part → ℕ
bracket (top o) = 0
bracket (elements ts) = 91
bracket (pairs ms k) = 123

-- the text before that of the innermost part
abbrev Outside : Part → List Part → List ℕ → Type 0
Outside p [] o = IsTop p × (o ≡ [])
Outside p (q ∷ qs) o = (x : List ℕ) × (s : List ℕ) × (b : List ℕ) × Outside q qs x × Slot q s × Spaced (Sign (bracket p)) b × (o ≡ x ++ (s ++ b))

abbrev part_depth : Part → ℕ
part_depth (top None) = 0
part_depth (top (Some t)) = depth t
part_depth (elements ts) = items_depth ts
part_depth (pairs ms k) = members_depth ms

abbrev Shallow : ℕ → Part → List Part → Type 0
Shallow limit p [] = part_depth p ≤ limit
Shallow limit p (q ∷ qs) = (part_depth p + length (q ∷ qs) ≤ limit) × Shallow limit q qs

abbrev Consumed : ℕ → Mode → State → List ℕ → Type 0
Consumed limit m s c = (o : List ℕ) × (x : List ℕ) × Outside s.0 s.1 o × At m s.0 x × Shallow limit s.0 s.1 × (c ≡ o ++ x)

-- ---- a value is put into its part

more_push : (ts : Items) (t : Tree) (y c z : List ℕ) → SpellsMoreItems ts y → Spaced (Sign 44) c → Spaced (Spells t) z → SpellsMoreItems (items_push ts t) (y ++ (c ++ z))
more_push no_items t y c z h g k = (c, z, [], g, k, refl, ap (λ (x : List ℕ). x ++ (c ++ z)) h ∙ ap (λ (x : List ℕ). c ++ x) (sym (append-nil z)))
more_push (item u us) t y c z h g k =
    (h.0, h.1, h.2 ++ (c ++ z), h.3, h.4, more_push us t h.2 c z h.5 g k, ap (λ (x : List ℕ). x ++ (c ++ z)) h.6 ∙ simp append_assoc)

more_members_push : (ms : Members) (k : List ℕ) (t : Tree) (y c l d z : List ℕ) → SpellsMoreMembers ms y → Spaced (Sign 44) c → Spaced (Quoted k) l → Spaced (Sign 58) d → Spaced (Spells t) z
    → SpellsMoreMembers (members_push ms k t) (y ++ (c ++ (l ++ (d ++ z))))
more_members_push no_members k t y c l d z h g a b e =
    (c, l, d, z, [], g, a, b, e, refl, ap (λ (x : List ℕ). x ++ (c ++ (l ++ (d ++ z)))) h ∙ ap (λ (x : List ℕ). c ++ (l ++ (d ++ x))) (sym (append-nil z)))
more_members_push (member m u ms) k t y c l d z h g a b e =
    (h.0, h.1, h.2, h.3, h.4 ++ (c ++ (l ++ (d ++ z))), h.5, h.6, h.7, h.8, more_members_push ms k t h.4 c l d z h.9 g a b e, ap (λ (x : List ℕ). x ++ (c ++ (l ++ (d ++ z)))) h.10 ∙ simp append_assoc)

put_done : (t : Tree) (p : Part) (y z : List ℕ) → Slot p y → Spaced (Spells t) z → Done (put t p) (y ++ z)
put_done t (top None) y z h g = subst (Spaced (Spells t)) (ap (λ (x : List ℕ). x ++ z) (sym h)) g
put_done t (top (Some u)) y z h g = absurd h
put_done t (elements no_items) y z h g = (z, [], g, refl, ap (λ (x : List ℕ). x ++ z) h ∙ sym (append-nil z))
put_done t (elements (item u us)) y z h g =
    let b = h.2 in
    (b.0, b.1 ++ (h.1 ++ z), b.2, more_push us t b.1 h.1 z b.3 h.3 g, ap (λ (x : List ℕ). x ++ z) (h.4 ∙ ap (λ (x : List ℕ). x ++ h.1) b.4) ∙ simp append_assoc)
put_done t (pairs ms None) y z h g = absurd h
put_done t (pairs no_members (Some k)) y z h g =
    (h.1, h.2, z, [], h.4, h.5, g, refl, ap (λ (x : List ℕ). x ++ z) (h.6 ∙ ap (λ (x : List ℕ). x ++ (h.1 ++ h.2)) h.3) ∙ append_assoc h.1 h.2 z ∙ ap (λ (x : List ℕ). h.1 ++ (h.2 ++ x)) (sym (append-nil z)))
put_done t (pairs (member l u us) (Some k)) y z h g =
    let a = h.3 in
    let b = a.2 in (
      b.0,
      b.1,
      b.2,
      b.3 ++ (a.1 ++ (h.1 ++ (h.2 ++ z))),
      b.4,
      b.5,
      b.6,
      more_members_push us k t b.3 a.1 h.1 h.2 z b.7 a.3 h.4 h.5 g,
      ap (λ (x : List ℕ). x ++ z) (h.6 ∙ ap (λ (x : List ℕ). x ++ (h.1 ++ h.2)) (a.4 ∙ ap (λ (x : List ℕ). x ++ a.1) b.8)) ∙ simp append_assoc,
    )

depth-items_push : (ts : Items) (t : Tree) → items_depth (items_push ts t) ≤ max (items_depth ts) (depth t)
depth-items_push no_items t = omega arith
depth-items_push (item u us) t = omega (arith, depth-items_push us t)

depth-members_push : (ms : Members) (k : List ℕ) (t : Tree) → members_depth (members_push ms k t) ≤ max (members_depth ms) (depth t)
depth-members_push no_members k t = omega arith
depth-members_push (member l u us) k t = omega (arith, depth-members_push us k t)

part_depth-put : (p : Part) (t : Tree) → part_depth (put t p) ≤ max (part_depth p) (depth t)
part_depth-put (top o) t = omega arith
part_depth-put (elements ts) t = depth-items_push ts t
part_depth-put (pairs ms None) t = depth-members_push ms [] t
part_depth-put (pairs ms (Some k)) t = depth-members_push ms k t

shallow_put : (limit : ℕ) (p : Part) (qs : List Part) (t : Tree) → Shallow limit p qs → depth t + length qs ≤ limit → Shallow limit (put t p) qs
shallow_put limit p [] t h g = omega (arith, part_depth-put p t)
shallow_put limit p (q ∷ qs) t h g = (omega (arith, part_depth-put p t, h.0), h.1)

shallow_length : (limit : ℕ) (p : Part) (qs : List Part) → Shallow limit p qs → length qs ≤ limit
shallow_length limit p [] h = omega arith
shallow_length limit p (q ∷ qs) h = omega (arith, h.0)

outside_put : (p : Part) (qs : List Part) (t : Tree) (o : List ℕ) → Outside p qs o → Outside (put t p) qs o
outside_put (top u) [] t o h = h
outside_put (elements ts) [] t o h = absurd h.0
outside_put (pairs ms k) [] t o h = absurd h.0
outside_put (top u) (q ∷ qs) t o h = h
outside_put (elements ts) (q ∷ qs) t o h = h
outside_put (pairs ms k) (q ∷ qs) t o h = h

outside_key : (p : Part) (qs : List Part) (k : List ℕ) (o : List ℕ) → Outside p qs o → Outside (put_key k p) qs o
outside_key (top u) [] k o h = h
outside_key (elements ts) [] k o h = absurd h.0
outside_key (pairs ms l) [] k o h = absurd h.0
outside_key (top u) (q ∷ qs) k o h = h
outside_key (elements ts) (q ∷ qs) k o h = h
outside_key (pairs ms l) (q ∷ qs) k o h = h

shallow_key : (limit : ℕ) (p : Part) (qs : List Part) (k : List ℕ) → Shallow limit p qs → Shallow limit (put_key k p) qs
shallow_key limit (top u) [] k h = h
shallow_key limit (elements ts) [] k h = h
shallow_key limit (pairs ms l) [] k h = h
shallow_key limit (top u) (q ∷ qs) k h = h
shallow_key limit (elements ts) (q ∷ qs) k h = h
shallow_key limit (pairs ms l) (q ∷ qs) k h = h

split : (x : Bool) (t u : Advance) (G : Mode × State → Type 0) → (x ≡ true → IfSome t G) → (x ≡ false → IfSome u G) → IfSome (cond x t u) G
split true t u G f g = f refl
split false t u G f g = g refl

nothing : (G : Mode × State → Type 0) → IfSome None G
nothing G = tt

fresh_slot : (p : Part) (y : List ℕ) → FreshItems p y → Slot p y
fresh_slot (top o) y h = absurd h
fresh_slot (elements no_items) y h = h
fresh_slot (elements (item t ts)) y h = absurd h
fresh_slot (pairs ms k) y h = absurd h

fresh_key : (p : Part) (y : List ℕ) → FreshMembers p y → KeySlot p y
fresh_key (top o) y h = absurd h
fresh_key (elements ts) y h = absurd h
fresh_key (pairs ms (Some k)) y h = absurd h
fresh_key (pairs no_members None) y h = h
fresh_key (pairs (member k t ms) None) y h = absurd h

-- what a container holds
abbrev Inside : Part → List ℕ → Type 0
Inside (top o) x = ⊥
Inside (elements ts) x = SpellsItems ts x
Inside (pairs ms None) x = SpellsMembers ms x
Inside (pairs ms (Some k)) x = ⊥

fresh_inside : (p : Part) (y : List ℕ) → FreshItems p y → Inside p y
fresh_inside (top o) y h = absurd h
fresh_inside (elements no_items) y h = h
fresh_inside (elements (item t ts)) y h = absurd h
fresh_inside (pairs ms k) y h = absurd h

fresh_members_inside : (p : Part) (y : List ℕ) → FreshMembers p y → Inside p y
fresh_members_inside (top o) y h = absurd h
fresh_members_inside (elements ts) y h = absurd h
fresh_members_inside (pairs ms (Some k)) y h = absurd h
fresh_members_inside (pairs no_members None) y h = h
fresh_members_inside (pairs (member k t ms) None) y h = absurd h

abbrev closer : Part → ℕ
closer (top o) = 0
closer (elements ts) = 93
closer (pairs ms k) = 125

after_comma_items : (ts : Items) (y w : List ℕ) (b : ℕ) → Done (elements ts) y → Blank w → b ≡ 44 → Opening (elements ts) (y ++ (w ++ b ∷ []))
after_comma_items no_items y w b h k e = absurd h
after_comma_items (item t ts) y w b h k e = (y, w ++ b ∷ [], h, (w, b ∷ [], k, ap (λ (x : ℕ). x ∷ []) e, refl), refl)

after_comma_members : (ms : Members) (y w : List ℕ) (b : ℕ) → Done (pairs ms None) y → Blank w → b ≡ 44 → Opening (pairs ms None) (y ++ (w ++ b ∷ []))
after_comma_members no_members y w b h k e = absurd h
after_comma_members (member l t ms) y w b h k e = (y, w ++ b ∷ [], h, (w, b ∷ [], k, ap (λ (x : ℕ). x ∷ []) e, refl), refl)

done_items : (ts : Items) (y : List ℕ) → Done (elements ts) y → SpellsItems ts y
done_items no_items y h = absurd h
done_items (item t ts) y h = h

done_members : (ms : Members) (y : List ℕ) → Done (pairs ms None) y → SpellsMembers ms y
done_members no_members y h = absurd h
done_members (member k t ms) y h = h

abbrev Keeps : ℕ → List ℕ → ℕ → Mode × State → Type 0
Keeps limit c b p = Consumed limit p.0 p.1 (c ++ b ∷ [])

trail_blank : (P : List ℕ → Type 0) (x : List ℕ) (b : ℕ) → Trail P x → IsBlank b → Trail P (x ++ b ∷ [])
trail_blank P x b h k = (h.0, h.1 ++ b ∷ [], h.2, push_all IsBlank h.1 b h.3 k, ap (λ (z : List ℕ). z ++ b ∷ []) h.4 ∙ append_assoc h.0 h.1 (b ∷ []))

-- nothing follows
ended : (P : List ℕ → Type 0) (x : List ℕ) → P x → Trail P x
ended P x h = (x, [], h, tt, sym (append-nil x))

module _ (limit : ℕ) where
  same_part : (m n : Mode) (s : State) (c : List ℕ) (b : ℕ) → Consumed limit m s c → ((x : List ℕ) → At m s.0 x → At n s.0 (x ++ b ∷ [])) → Consumed limit n s (c ++ b ∷ [])
  same_part m n s c b h f = (h.0, h.1 ++ b ∷ [], h.2, f h.1 h.3, h.4, ap (λ (z : List ℕ). z ++ b ∷ []) h.5 ∙ append_assoc h.0 h.1 (b ∷ []))

  -- a value ends with this byte
  value_comes : (p : Part) (qs : List Part) (t : Tree) (c o y z : List ℕ) → Outside p qs o → Slot p y → Spaced (Spells t) z → Shallow limit p qs → depth t + length qs ≤ limit → c ≡ o ++ (y ++ z)
      → Consumed limit after_value (put t p, qs) c
  value_comes p qs t c o y z out slot sp sh d e =
      (o, y ++ z, outside_put p qs t o out, ended (Done (put t p)) (y ++ z) (put_done t p y z slot sp), shallow_put limit p qs t sh d, e)

  value_ends : (p : Part) (qs : List Part) (t : Tree) (c o y z : List ℕ) (b : ℕ) → Outside p qs o → Slot p y → Spaced (Spells t) z → Shallow limit p qs → depth t + length qs ≤ limit → c ++ b ∷ [] ≡ o ++ (y ++ z)
      → Consumed limit after_value (put t p, qs) (c ++ b ∷ [])
  value_ends p qs t c o y z b out slot sp sh d e = value_comes p qs t (c ++ b ∷ []) o y z out slot sp sh d e

  -- a number ends, before this byte
  number_comes : (a : List ℕ) (s : State) (c : List ℕ) (o : Option Number) → number_of a ≡ o → Consumed limit (digits a) s c
      → IfSome (option_map (λ (v : Number). with_value (number v) s) o) (λ (t : State). Consumed limit after_value t c)
  number_comes a s c None e h = tt
  number_comes a s c (Some v) e h =
      let at = h.3 in
      value_comes s.0 s.1 (number v) c h.0 at.0 (at.1 ++ a) h.2 at.2 (at.1, a, at.3, number_sound a v e, refl) h.4 (omega (arith, shallow_length limit s.0 s.1 h.4))
      (h.5 ∙ ap (λ (x : List ℕ). h.0 ++ x) at.4)

  goes_on : {X : Type 0} (P : X → Type 0) (K : X → Advance) (G : Mode × State → Type 0) (o : Option X) → IfSome o P → ((x : X) → P x → IfSome (K x) G) → IfSome (option_and_then K o) G
  goes_on P K G None h f = tt
  goes_on P K G (Some x) h f = f x h

  open_keeps : (kind : Bool) (p : Part) (qs : List Part) (c o y w : List ℕ) (b : ℕ) → Outside p qs o → Slot p y → Blank w → Shallow limit p qs → c ≡ o ++ (y ++ w) → b ≡ bracket (empty kind)
      → IfSome (open_turn limit kind (p, qs)) (Keeps limit c b)
  open_keeps false p qs c o y w b out slot blank sh e is =
      split (nat_lt (length qs) limit) (Some (value_or_close, (elements no_items, p ∷ qs))) None (Keeps limit c b)
      (λ lt. let less : length qs < limit = ltb-true (length qs) limit lt in (
        c ++ b ∷ [],
        [],
        (o, y, w ++ b ∷ [], out, slot, (w, b ∷ [], blank, ap (λ (x : ℕ). x ∷ []) is, refl), ap (λ (z : List ℕ). z ++ b ∷ []) e ∙ simp append_assoc),
        ended (FreshItems (elements no_items)) [] refl,
        (omega arith, sh),
        sym (append-nil (c ++ b ∷ [])),
      ))
      (λ _. tt)
  open_keeps true p qs c o y w b out slot blank sh e is =
      split (nat_lt (length qs) limit) (Some (key_or_close, (pairs no_members None, p ∷ qs))) None (Keeps limit c b)
      (λ lt. let less : length qs < limit = ltb-true (length qs) limit lt in (
        c ++ b ∷ [],
        [],
        (o, y, w ++ b ∷ [], out, slot, (w, b ∷ [], blank, ap (λ (x : ℕ). x ∷ []) is, refl), ap (λ (z : List ℕ). z ++ b ∷ []) e ∙ simp append_assoc),
        ended (FreshMembers (pairs no_members None)) [] refl,
        (omega arith, sh),
        sym (append-nil (c ++ b ∷ [])),
      ))
      (λ _. tt)

  -- a word begins with this byte
  word_begins : (p : Part) (qs : List Part) (c o y w r : List ℕ) (t : Tree) (b : ℕ) → Outside p qs o → Slot p y → Blank w → Shallow limit p qs → c ≡ o ++ (y ++ w) → Spells t (b ∷ r) → depth t ≡ 0
      → Keeps limit c b (letters r t, (p, qs))
  word_begins p qs c o y w r t b out slot blank sh e sp d =
      (o, y ++ (w ++ b ∷ []), out, (y, w, b ∷ [], slot, blank, sp, d, refl), sh, ap (λ (z : List ℕ). z ++ b ∷ []) e ∙ simp append_assoc)

  start_keeps : (p : Part) (qs : List Part) (c : List ℕ) (b : ℕ) → Consumed limit value (p, qs) c → IfSome (start limit (p, qs) b) (Keeps limit c b)
  start_keeps p qs c b h =
      let o = h.0 in
      let trail = h.3 in
      let y = trail.0 in
      let w = trail.1 in
      let e : c ≡ o ++ (y ++ w) = h.5 ∙ ap (λ (x : List ℕ). o ++ x) trail.4 in
      let G = Keeps limit c b in
      split (begins_number b) _ _ G
      (λ _. (o, y ++ (w ++ b ∷ []), h.2, (y, w, trail.2, trail.3, refl), h.4, ap (λ (z : List ℕ). z ++ b ∷ []) e ∙ simp append_assoc))
      (λ _. split (b == 34) _ _ G
      (λ is. (o, y ++ (w ++ 34 ∷ []), h.2, (y, w, [], trail.2, trail.3, writes_none, refl), h.4, ap (λ (z : List ℕ). z ++ b ∷ []) e ∙ ap (λ (x : ℕ). (o ++ (y ++ w)) ++ x ∷ []) (eqb-true b 34 is) ∙ simp append_assoc))
      (λ _. split (b == 91) _ _ G (λ is. open_keeps false p qs c o y w b h.2 trail.2 trail.3 h.4 e (eqb-true b 91 is))
      (λ _. split (b == 123) _ _ G (λ is. open_keeps true p qs c o y w b h.2 trail.2 trail.3 h.4 e (eqb-true b 123 is))
      (λ _. split (b == 110) _ _ G (λ is. word_begins p qs c o y w (codes "ull") null b h.2 trail.2 trail.3 h.4 e (ap (λ (x : ℕ). x ∷ codes "ull") (eqb-true b 110 is)) refl)
      (λ _. split (b == 116) _ _ G (λ is. word_begins p qs c o y w (codes "rue") (truth true) b h.2 trail.2 trail.3 h.4 e (ap (λ (x : ℕ). x ∷ codes "rue") (eqb-true b 116 is)) refl)
      (λ _. split (b == 102) _ _ G (λ is. word_begins p qs c o y w (codes "alse") (truth false) b h.2 trail.2 trail.3 h.4 e (ap (λ (x : ℕ). x ∷ codes "alse") (eqb-true b 102 is)) refl)
      (λ _. tt)))))))

  close_keeps : (p : Part) (qs : List Part) (c o y w : List ℕ) (b : ℕ) → Outside p qs o → Inside p y → Blank w → b ≡ closer p → Shallow limit p qs → c ≡ o ++ (y ++ w) → IfSome (close_turn (p, qs)) (Keeps limit c b)
  close_keeps (top u) qs c o y w b out inside blank is sh e = absurd inside
  close_keeps (elements ts) [] c o y w b out inside blank is sh e = absurd out.0
  close_keeps (elements ts) (q ∷ qs) c o y w b out inside blank is sh e =
      let br = out.5 in
      let v : List ℕ = 91 ∷ (y ++ (w ++ b ∷ [])) in
      let sp : Spells (array ts) v = (y, w ++ b ∷ [], inside, (w, b ∷ [], blank, ap (λ (x : ℕ). x ∷ []) is, refl), refl) in
      value_ends q qs (array ts) c out.0 out.1 (br.0 ++ v) b out.3 out.4 (br.0, v, br.2, sp, refl) sh.1 (omega (arith, sh.0))
      (ap (λ (z : List ℕ). z ++ b ∷ []) (e ∙ ap (λ (z : List ℕ). z ++ (y ++ w)) (out.6 ∙ ap (λ (z : List ℕ). out.0 ++ (out.1 ++ z)) (br.4 ∙ ap (λ (z : List ℕ). br.0 ++ z) br.3))) ∙ simp append_assoc)
  close_keeps (pairs ms (Some k)) qs c o y w b out inside blank is sh e = absurd inside
  close_keeps (pairs ms None) [] c o y w b out inside blank is sh e = absurd out.0
  close_keeps (pairs ms None) (q ∷ qs) c o y w b out inside blank is sh e =
      let br = out.5 in
      let v : List ℕ = 123 ∷ (y ++ (w ++ b ∷ [])) in
      let sp : Spells (object ms) v = (y, w ++ b ∷ [], inside, (w, b ∷ [], blank, ap (λ (x : ℕ). x ∷ []) is, refl), refl) in
      value_ends q qs (object ms) c out.0 out.1 (br.0 ++ v) b out.3 out.4 (br.0, v, br.2, sp, refl) sh.1 (omega (arith, sh.0))
      (ap (λ (z : List ℕ). z ++ b ∷ []) (e ∙ ap (λ (z : List ℕ). z ++ (y ++ w)) (out.6 ∙ ap (λ (z : List ℕ). out.0 ++ (out.1 ++ z)) (br.4 ∙ ap (λ (z : List ℕ). br.0 ++ z) br.3))) ∙ simp append_assoc)

  -- a key's quotation mark
  quote_keeps : (p : Part) (qs : List Part) (c o y w : List ℕ) (b : ℕ) → Outside p qs o → KeySlot p y → Blank w → Shallow limit p qs → c ≡ o ++ (y ++ w) → b ≡ 34 → Keeps limit c b (quoted true [], (p, qs))
  quote_keeps p qs c o y w b out slot blank sh e is =
      (o, y ++ (w ++ 34 ∷ []), out, (y, w, [], slot, blank, writes_none, refl), sh, ap (λ (z : List ℕ). z ++ b ∷ []) e ∙ ap (λ (x : ℕ). (o ++ (y ++ w)) ++ x ∷ []) is ∙ simp append_assoc)

  separate_keeps : (p : Part) (qs : List Part) (c o y w : List ℕ) (b : ℕ) → Outside p qs o → Done p y → Blank w → Shallow limit p qs → c ≡ o ++ (y ++ w) → IfSome (separate (p, qs) b) (Keeps limit c b)
  separate_keeps (top u) qs c o y w b out done blank sh e = tt
  separate_keeps (elements ts) qs c o y w b out done blank sh e =
      split (b == 44) _ _ (Keeps limit c b)
      (λ is. (o, y ++ (w ++ b ∷ []), out, ended (Slot (elements ts)) (y ++ (w ++ b ∷ [])) (after_comma_items ts y w b done blank (eqb-true b 44 is)), sh, ap (λ (z : List ℕ). z ++ b ∷ []) e ∙ simp append_assoc))
      (λ _. split (b == 93) _ _ (Keeps limit c b) (λ is. close_keeps (elements ts) qs c o y w b out (done_items ts y done) blank (eqb-true b 93 is) sh e) (λ _. tt))
  separate_keeps (pairs ms (Some k)) qs c o y w b out done blank sh e = absurd done
  separate_keeps (pairs ms None) qs c o y w b out done blank sh e =
      split (b == 44) _ _ (Keeps limit c b)
      (λ is. (o, y ++ (w ++ b ∷ []), out, ended (KeySlot (pairs ms None)) (y ++ (w ++ b ∷ [])) (after_comma_members ms y w b done blank (eqb-true b 44 is)), sh, ap (λ (z : List ℕ). z ++ b ∷ []) e ∙ simp append_assoc))
      (λ _. split (b == 125) _ _ (Keeps limit c b) (λ is. close_keeps (pairs ms None) qs c o y w b out (done_members ms y done) blank (eqb-true b 125 is) sh e) (λ _. tt))

  colon_keeps : (p : Part) (x : List ℕ) (b : ℕ) → Trail (ColonSlot p) x → b ≡ 58 → Trail (Slot p) (x ++ b ∷ [])
  colon_keeps (top u) x b h is = absurd h.2
  colon_keeps (elements ts) x b h is = absurd h.2
  colon_keeps (pairs ms None) x b h is = absurd h.2
  colon_keeps (pairs ms (Some k)) x b h is =
      let y = h.2 in
      ended (Slot (pairs ms (Some k))) (x ++ b ∷ []) (
        y.0,
        y.1,
        h.1 ++ b ∷ [],
        y.2,
        y.3,
        (h.1, b ∷ [], h.3, ap (λ (x : ℕ). x ∷ []) is, refl),
        ap (λ (z : List ℕ). z ++ b ∷ []) (h.4 ∙ ap (λ (z : List ℕ). z ++ h.1) y.4) ∙ simp append_assoc,
      )

  key_ends : (p : Part) (qs : List Part) (k c o y z : List ℕ) (b : ℕ) → Outside p qs o → KeySlot p y → Spaced (Quoted k) z → Shallow limit p qs → c ++ b ∷ [] ≡ o ++ (y ++ z) → Consumed limit colon (put_key k p, qs) (c ++ b ∷ [])
  key_ends (top u) qs k c o y z b out slot sp sh e = absurd slot
  key_ends (elements ts) qs k c o y z b out slot sp sh e = absurd slot
  key_ends (pairs ms (Some l)) qs k c o y z b out slot sp sh e = absurd slot
  key_ends (pairs ms None) qs k c o y z b out slot sp sh e =
      (o, y ++ z, outside_key (pairs ms None) qs k o out, ended (ColonSlot (pairs ms (Some k))) (y ++ z) (y, z, slot, sp, refl), shallow_key limit (pairs ms None) qs k sh, e)

  close_fresh : (p : Part) (qs : List Part) (c o y w : List ℕ) (b : ℕ) → Outside p qs o → FreshItems p y → Blank w → b ≡ 93 → Shallow limit p qs → c ≡ o ++ (y ++ w) → IfSome (close_turn (p, qs)) (Keeps limit c b)
  close_fresh (top u) qs c o y w b out inside blank is sh e = absurd inside
  close_fresh (elements no_items) qs c o y w b out inside blank is sh e = close_keeps (elements no_items) qs c o y w b out inside blank is sh e
  close_fresh (elements (item t ts)) qs c o y w b out inside blank is sh e = absurd inside
  close_fresh (pairs ms k) qs c o y w b out inside blank is sh e = absurd inside

  close_fresh_members : (p : Part) (qs : List Part) (c o y w : List ℕ) (b : ℕ) → Outside p qs o → FreshMembers p y → Blank w → b ≡ 125 → Shallow limit p qs → c ≡ o ++ (y ++ w) → IfSome (close_turn (p, qs)) (Keeps limit c b)
  close_fresh_members (top u) qs c o y w b out inside blank is sh e = absurd inside
  close_fresh_members (elements ts) qs c o y w b out inside blank is sh e = absurd inside
  close_fresh_members (pairs ms (Some k)) qs c o y w b out inside blank is sh e = absurd inside
  close_fresh_members (pairs no_members None) qs c o y w b out inside blank is sh e = close_keeps (pairs no_members None) qs c o y w b out inside blank is sh e
  close_fresh_members (pairs (member k t ms) None) qs c o y w b out inside blank is sh e = absurd inside

  after_keeps : (s : State) (c : List ℕ) (b : ℕ) → Consumed limit after_value s c → IfSome (turn limit after_value s b) (Keeps limit c b)
  after_keeps s c b h =
      let trail = h.3 in
      let e : c ≡ h.0 ++ (trail.0 ++ trail.1) = h.5 ∙ ap (λ (x : List ℕ). h.0 ++ x) trail.4 in
      split (is_blank b) _ _ (Keeps limit c b) (λ k. same_part after_value after_value s c b h (λ x a. trail_blank (Done s.0) x b a k))
      (λ _. separate_keeps s.0 s.1 c h.0 trail.0 trail.1 b h.2 trail.2 trail.3 h.4 e)

  -- the string grows by a piece
  piece_comes : (k : Bool) (a : List ℕ) (p : Part) (r : List ℕ) (x : List ℕ) (b : ℕ) (q : Piece) (t : List ℕ) → InString k a p r x → IsPiece q → piece_text q ≡ t → piece_bytes q ≡ r ++ b ∷ [] → InString k (a ++ t) p [] (x ++ b ∷ [])
  piece_comes k a p r x b q t h good text bytes = (
    h.0,
    h.1,
    h.2 ++ (r ++ b ∷ []),
    h.3,
    h.4,
    writes_push a h.2 q t (r ++ b ∷ []) h.5 good text bytes,
    ap (λ (z : List ℕ). z ++ b ∷ []) h.6 ∙ longer h.0 h.1 h.2 r b,
  )
    where
      longer : (y w m r : List ℕ) (b : ℕ) → (y ++ (w ++ (34 ∷ m ++ r))) ++ b ∷ [] ≡ y ++ (w ++ (34 ∷ (m ++ (r ++ b ∷ [])) ++ []))
      longer y w m r b =
          append_assoc y (w ++ (34 ∷ m ++ r)) (b ∷ [])
          ∙ ap (λ (z : List ℕ). y ++ z) (append_assoc w (34 ∷ m ++ r) (b ∷ []) ∙ ap (λ (z : List ℕ). w ++ (34 ∷ z)) (append_assoc m r (b ∷ []) ∙ sym (append-nil (m ++ (r ++ b ∷ [])))))

  -- the escape goes on
  escape_grows : (k : Bool) (a : List ℕ) (p : Part) (r : List ℕ) (x : List ℕ) (b : ℕ) → InString k a p r x → InString k a p (r ++ b ∷ []) (x ++ b ∷ [])
  escape_grows k a p r x b h = (
    h.0,
    h.1,
    h.2,
    h.3,
    h.4,
    h.5,
    ap (λ (z : List ℕ). z ++ b ∷ []) h.6 ∙ append_assoc h.0 (h.1 ++ (34 ∷ h.2 ++ r)) (b ∷ [])
        ∙ ap (λ (z : List ℕ). h.0 ++ z) (append_assoc h.1 (34 ∷ h.2 ++ r) (b ∷ []) ∙ ap (λ (z : List ℕ). h.1 ++ (34 ∷ z)) (append_assoc h.2 r (b ∷ []))),
  )

  mapped : {X : Type 0} (P : X → Type 0) (f : X → Mode × State) (G : Mode × State → Type 0) (o : Option X) → IfSome o P → ((x : X) → P x → G (f x)) → IfSome (option_map f o) G
  mapped P f G None h g = tt
  mapped P f G (Some x) h g = g x h

  escape_keeps : (k : Bool) (q : List ℕ) (e : Escape) (s : State) (c : List ℕ) (b : ℕ) → Consumed limit (escaped k q e) s c → IfSome (turn limit (escaped k q e) s b) (Keeps limit c b)
  escape_keeps k q e s c b h =
      let a = h.3 in
      mapped (Leads (a.0 ++ b ∷ [])) (after_step k q s) (Keeps limit c b) (escape_step e b) (escape_leads e a.0 b a.1)
      (λ st leads. stepped k q a.0 s c b h.0 h.1 h.2 a.2 h.4 h.5 st leads)
    where
      stepped : (k : Bool) (q r : List ℕ) (s : State) (c : List ℕ) (b : ℕ) (o x : List ℕ) → Outside s.0 s.1 o → InString k q s.0 (92 ∷ r) x → Shallow limit s.0 s.1 → c ≡ o ++ x
          → (st : EscapeStep) → Leads (r ++ b ∷ []) st → Keeps limit c b (after_step k q s st)
      stepped k q r s c b o x out a sh e (wait n) leads =
          (o, x ++ b ∷ [], out, (r ++ b ∷ [], leads, escape_grows k q s.0 (92 ∷ r) x b a), sh, ap (λ (z : List ℕ). z ++ b ∷ []) e ∙ append_assoc o x (b ∷ []))
      stepped k q r s c b o x out a sh e (char v) leads =
          (o, x ++ b ∷ [], out, piece_comes k q s.0 (92 ∷ r) x b leads.0 (encode_utf8 v) a leads.1 leads.3 leads.2, sh, ap (λ (z : List ℕ). z ++ b ∷ []) e ∙ append_assoc o x (b ∷ []))

  -- the text of a string with its quotation marks
  closed_text : (y w m : List ℕ) (x : List ℕ) (b : ℕ) → x ≡ y ++ (w ++ (34 ∷ m ++ [])) → b ≡ 34 → x ++ b ∷ [] ≡ y ++ (w ++ (34 ∷ m ++ 34 ∷ []))
  closed_text y w m x b e is =
      ap (λ (z : List ℕ). z ++ b ∷ []) (e ∙ ap (λ (z : List ℕ). y ++ (w ++ (34 ∷ z))) (append-nil m)) ∙ ap (λ (z : ℕ). (y ++ (w ++ 34 ∷ m)) ++ z ∷ []) is
      ∙ append_assoc y (w ++ 34 ∷ m) (34 ∷ []) ∙ ap (λ (z : List ℕ). y ++ z) (append_assoc w (34 ∷ m) (34 ∷ []))

  quote_ends : (k : Bool) (q : List ℕ) (s : State) (c : List ℕ) (b : ℕ) → Consumed limit (quoted k q) s c → b ≡ 34 → Keeps limit c b (end_quote k q s)
  quote_ends false q s c b h is =
      let a = h.3 in
      value_ends s.0 s.1 (string q) c h.0 a.0 (a.1 ++ (34 ∷ a.2 ++ 34 ∷ [])) b h.2 a.3 (a.1, 34 ∷ a.2 ++ 34 ∷ [], a.4, (a.2, a.5, refl), refl) h.4 (omega (arith, shallow_length limit s.0 s.1 h.4))
      (ap (λ (z : List ℕ). z ++ b ∷ []) h.5 ∙ append_assoc h.0 h.1 (b ∷ []) ∙ ap (λ (z : List ℕ). h.0 ++ z) (closed_text a.0 a.1 a.2 h.1 b a.6 is))
  quote_ends true q s c b h is =
      let a = h.3 in
      key_ends s.0 s.1 q c h.0 a.0 (a.1 ++ (34 ∷ a.2 ++ 34 ∷ [])) b h.2 a.3 (a.1, 34 ∷ a.2 ++ 34 ∷ [], a.4, (a.2, a.5, refl), refl) h.4
      (ap (λ (z : List ℕ). z ++ b ∷ []) h.5 ∙ append_assoc h.0 h.1 (b ∷ []) ∙ ap (λ (z : List ℕ). h.0 ++ z) (closed_text a.0 a.1 a.2 h.1 b a.6 is))

  string_keeps : (k : Bool) (q : List ℕ) (s : State) (c : List ℕ) (b : ℕ) → Consumed limit (quoted k q) s c → IfSome (turn limit (quoted k q) s b) (Keeps limit c b)
  string_keeps k q s c b h =
      split (b == 34) _ _ (Keeps limit c b) (λ is. quote_ends k q s c b h (eqb-true b 34 is))
      (λ _. split (is_plain b) _ _ (Keeps limit c b) (λ good. same_part (quoted k q) (quoted k (q ++ b ∷ [])) s c b h (λ x a. piece_comes k q s.0 [] x b (plain b) (b ∷ []) a good refl refl))
      (λ _. split (b == 92) _ _ (Keeps limit c b)
      (λ is. same_part (quoted k q) (escaped k q begun) s c b h (λ x a. ([], refl, subst (λ (z : ℕ). InString k q s.0 (z ∷ []) (x ++ b ∷ [])) (eqb-true b 92 is) (escape_grows k q s.0 [] x b a))))
      (λ _. tt)))

  turn_keeps : (m : Mode) (s : State) (c : List ℕ) (b : ℕ) → Consumed limit m s c → IfSome (turn limit m s b) (Keeps limit c b)
  turn_keeps value s c b h =
      split (is_blank b) (Some (value, s)) (start limit s b) (Keeps limit c b) (λ k. same_part value value s c b h (λ x a. trail_blank (Slot s.0) x b a k)) (λ _. start_keeps s.0 s.1 c b h)
  turn_keeps value_or_close s c b h =
      let trail = h.3 in
      let e : c ≡ h.0 ++ (trail.0 ++ trail.1) = h.5 ∙ ap (λ (x : List ℕ). h.0 ++ x) trail.4 in
      let as_value : Consumed limit value s c = (h.0, h.1, h.2, (trail.0, trail.1, fresh_slot s.0 trail.0 trail.2, trail.3, trail.4), h.4, h.5) in
      split (is_blank b) _ _ (Keeps limit c b) (λ k. same_part value_or_close value_or_close s c b h (λ x a. trail_blank (FreshItems s.0) x b a k))
      (λ _. split (b == 93) _ _ (Keeps limit c b) (λ is. close_fresh s.0 s.1 c h.0 trail.0 trail.1 b h.2 trail.2 trail.3 (eqb-true b 93 is) h.4 e) (λ _. start_keeps s.0 s.1 c b as_value))
  turn_keeps key s c b h =
      let trail = h.3 in
      let e : c ≡ h.0 ++ (trail.0 ++ trail.1) = h.5 ∙ ap (λ (x : List ℕ). h.0 ++ x) trail.4 in
      split (is_blank b) _ _ (Keeps limit c b) (λ k. same_part key key s c b h (λ x a. trail_blank (KeySlot s.0) x b a k))
      (λ _. split (b == 34) _ _ (Keeps limit c b) (λ is. quote_keeps s.0 s.1 c h.0 trail.0 trail.1 b h.2 trail.2 trail.3 h.4 e (eqb-true b 34 is)) (λ _. tt))
  turn_keeps key_or_close s c b h =
      let trail = h.3 in
      let e : c ≡ h.0 ++ (trail.0 ++ trail.1) = h.5 ∙ ap (λ (x : List ℕ). h.0 ++ x) trail.4 in
      split (is_blank b) _ _ (Keeps limit c b) (λ k. same_part key_or_close key_or_close s c b h (λ x a. trail_blank (FreshMembers s.0) x b a k))
      (λ _. split (b == 125) _ _ (Keeps limit c b) (λ is. close_fresh_members s.0 s.1 c h.0 trail.0 trail.1 b h.2 trail.2 trail.3 (eqb-true b 125 is) h.4 e)
      (λ _. split (b == 34) _ _ (Keeps limit c b) (λ is. quote_keeps s.0 s.1 c h.0 trail.0 trail.1 b h.2 (fresh_key s.0 trail.0 trail.2) trail.3 h.4 e (eqb-true b 34 is)) (λ _. tt)))
  turn_keeps colon s c b h =
      split (is_blank b) _ _ (Keeps limit c b) (λ k. same_part colon colon s c b h (λ x a. trail_blank (ColonSlot s.0) x b a k))
      (λ _. split (b == 58) _ _ (Keeps limit c b) (λ is. same_part colon value s c b h (λ x a. colon_keeps s.0 x b a (eqb-true b 58 is))) (λ _. tt))
  turn_keeps after_value s c b h = after_keeps s c b h
  turn_keeps (digits q) s c b h =
      let a = h.3 in
      let e : c ≡ h.0 ++ (a.0 ++ (a.1 ++ q)) = h.5 ∙ ap (λ (x : List ℕ). h.0 ++ x) a.4 in
      split (is_number_byte b) _ _ (Keeps limit c b)
      (λ _. (h.0, a.0 ++ (a.1 ++ (q ++ b ∷ [])), h.2, (a.0, a.1, a.2, a.3, refl), h.4, ap (λ (z : List ℕ). z ++ b ∷ []) e ∙ simp append_assoc))
      (λ _. goes_on (λ (t : State). Consumed limit after_value t c) (λ (t : State). unless_blank b after_value t (separate t b)) (Keeps limit c b) (end_number q s) (number_comes q s c (number_of q) refl h) (λ t k. after_keeps t c b k))
  turn_keeps (letters [] t) s c b h = tt
  turn_keeps (letters (x ∷ []) t) s c b h =
      let a = h.3 in
      let e : c ≡ h.0 ++ (a.0 ++ (a.1 ++ a.2)) = h.5 ∙ ap (λ (x : List ℕ). h.0 ++ x) a.7 in
      split (b == x) _ _ (Keeps limit c b)
      (λ is. value_ends s.0 s.1 t c h.0 a.0 (a.1 ++ (a.2 ++ b ∷ [])) b h.2 a.3 (a.1, a.2 ++ b ∷ [], a.4, subst (λ (z : ℕ). Spells t (a.2 ++ z ∷ [])) (sym (eqb-true b x is)) a.5, refl) h.4
      (omega (arith, a.6, shallow_length limit s.0 s.1 h.4)) (ap (λ (z : List ℕ). z ++ b ∷ []) e ∙ simp append_assoc))
      (λ _. tt)
  turn_keeps (letters (x ∷ z ∷ r) t) s c b h =
      let a = h.3 in
      let e : c ≡ h.0 ++ (a.0 ++ (a.1 ++ a.2)) = h.5 ∙ ap (λ (x : List ℕ). h.0 ++ x) a.7 in
      split (b == x) _ _ (Keeps limit c b)
      (λ is. (
        h.0,
        a.0 ++ (a.1 ++ (a.2 ++ b ∷ [])),
        h.2,
        (a.0, a.1, a.2 ++ b ∷ [], a.3, a.4, subst (Spells t) (ap (λ (q : ℕ). a.2 ++ (q ∷ z ∷ r)) (sym (eqb-true b x is)) ∙ sym (append_assoc a.2 (b ∷ []) (z ∷ r))) a.5, a.6, refl),
        h.4,
        ap (λ (z : List ℕ). z ++ b ∷ []) e ∙ simp append_assoc,
      ))
      (λ _. tt)
  turn_keeps (quoted k q) s c b h = string_keeps k q s c b h
  turn_keeps (escaped k q e) s c b h = escape_keeps k q e s c b h

  -- ---- whole texts

  go_on : (G : Mode × State → Type 0) (o : Advance) (K : Mode × State → Option Tree) (t : Tree) → IfSome o G → option_and_then K o ≡ Some t → (p : Mode × State) × G p × (K p ≡ Some t)
  go_on G None K t h e = cc
  go_on G (Some p) K t h e = (p, h, e)

  then_root : (P : State → Type 0) (o : Option State) (t : Tree) → IfSome o P → option_and_then root o ≡ Some t → (s : State) × P s × (root s ≡ Some t)
  then_root P None t h e = cc
  then_root P (Some s) t h e = (s, h, e)

  same_some : {t u : Tree} → Some t ≡ Some u → t ≡ u
  same_some e = cc

  ends_after : (s : State) (c : List ℕ) (t : Tree) → Consumed limit after_value s c → root s ≡ Some t → SpellsText t c × (depth t ≤ limit)
  ends_after (top None, []) c t h e = cc
  ends_after (top (Some u), []) c t h e =
      let a = h.3 in
      let same : u ≡ t = same_some e in
      let f : c ≡ a.0 ++ a.1 = h.5 ∙ ap (λ (o : List ℕ). o ++ h.1) h.2.1 ∙ a.4 in
      subst (λ (v : Tree). SpellsText v c × (depth v ≤ limit)) same ((a.0, a.1, a.2, a.3, f), h.4)
  ends_after (top o, q ∷ qs) c t h e = cc
  ends_after (elements ts, qs) c t h e = cc
  ends_after (pairs ms k, qs) c t h e = cc

  ends : (m : Mode) (s : State) (c : List ℕ) (t : Tree) → Consumed limit m s c → ending m s ≡ Some t → SpellsText t c × (depth t ≤ limit)
  ends value s c t h e = cc
  ends value_or_close s c t h e = cc
  ends key s c t h e = cc
  ends key_or_close s c t h e = cc
  ends colon s c t h e = cc
  ends (letters r u) s c t h e = cc
  ends (quoted k q) s c t h e = cc
  ends (escaped k q n) s c t h e = cc
  ends after_value s c t h e = ends_after s c t h e
  ends (digits a) s c t h e =
      let k = then_root (λ (u : State). Consumed limit after_value u c) (end_number a s) t (number_comes a s c (number_of a) refl h) e in
      ends_after k.0 c t k.1 k.2

  run_sound : (bs : List ℕ) (m : Mode) (s : State) (c : List ℕ) (t : Tree) → Consumed limit m s c → run limit m s bs ≡ Some t → SpellsText t (c ++ bs) × (depth t ≤ limit)
  unfolding run
  run_sound [] m s c t h e = subst (λ (x : List ℕ). SpellsText t x × (depth t ≤ limit)) (sym (append-nil c)) (ends m s c t h e)
  run_sound (b ∷ bs) m s c t h e =
      let next = go_on (Keeps limit c b) (turn limit m s b) (λ p. run limit p.0 p.1 bs) t (turn_keeps m s c b h) e in
      subst (λ (x : List ℕ). SpellsText t x × (depth t ≤ limit)) (append_assoc c (b ∷ []) bs) (run_sound bs next.0.0 next.0.1 (c ++ b ∷ []) t next.1 next.2)

  -- what is read is spelled so
  pub reading_spelled : (b : List ℕ) (t : Tree) → reading limit b ≡ Some t → SpellsText t b × (depth t ≤ limit)
  reading_spelled b t e = run_sound b value fresh [] t ([], [], (tt, refl), ([], [], refl, tt, refl), omega arith, refl) e
