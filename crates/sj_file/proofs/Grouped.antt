-- What each form refuses, and what grouping does.
use Rattle.std.proofs.Common.{◌≡◌, inl, inr, ℕ, List, [], ◌∷◌, refl, sym, ◌∙◌, subst}
use Rattle.sj_sql_grammar.specs.declared.refusal.FileKind.{FileKind}
use Rattle.sj_sql_grammar.specs.declared.refusal.FileKind.TheVariants.{Group}
use Rattle.sj_bound.specs.Bound.{Bound}
use Rattle.sj_group.specs.declared.aggregate.Aggregate.{Aggregate}
use Rattle.sj_file.specs.declared.status.Status.{Status}
use Rattle.sj_file.specs.declared.status.Status.TheVariants.{Done, Usage, Refused, ShelfFault, ReadFault, WriteFault, Memory, InputLimit, FileTooLong}
use Rattle.sj_file.specs.File.{ShelfSide, Form, running, checking, generating, showing, grouping, scanning}
use Rattle.sj_file.specs.Verdict.{Accepts}
use Rattle.sj_file.specs.Accepted.{Accepted, IsUntaken, IsUnaccepted}
use Rattle.sj_file.specs.ToGroup.{CanGroup, Unfit, RefusesToGroup, RefusesFor}
use Rattle.sj_file.proofs.Verdicts.{one_accepted, one_refusal, not_both}

-- ---- a file has one refusal at the most, whatever the form

-- two numbers of statements that show it
same_number : (K : List Bound) (k n : ℕ) → Unfit k K → Unfit n K → k ≡ n
same_number [] k n p q = p ∙ sym q
same_number (s ∷ []) k n p q = p.0 ∙ sym q.0
same_number (s ∷ t ∷ more) k n p q = p ∙ sym q

same_pair : (k n : ℕ) (kind other : FileKind) → k ≡ n → kind ≡ other → ◌≡◌ {A = ℕ × FileKind} (k, kind) (n, other)
same_pair k n kind other p q = cc (p, q)

one_to_group : (file : List ℕ) (k n : ℕ) (kind other : FileKind) → RefusesToGroup file k kind → RefusesToGroup file n other → ◌≡◌ {A = ℕ × FileKind} (k, kind) (n, other)
one_to_group file k n kind other (inl p) (inl q) = one_refusal file k n kind other p q
one_to_group file k n kind other (inl p) (inr u) = absurd (not_both file u.statements k kind u.accepted p)
one_to_group file k n kind other (inr u) (inl q) = absurd (not_both file u.statements n other u.accepted q)
one_to_group file k n kind other (inr u) (inr v) =
    same_pair k n kind other (same_number v.statements k n (subst (Unfit k) (one_accepted file u.statements v.statements u.accepted v.accepted) u.unfit) v.unfit) (u.group ∙ sym v.group)

pub one_refusal_for : (form : Form) (file : List ℕ) (k n : ℕ) (kind other : FileKind) → RefusesFor form file k kind → RefusesFor form file n other → ◌≡◌ {A = ℕ × FileKind} (k, kind) (n, other)
one_refusal_for (running keys name) = one_refusal
one_refusal_for (checking name) = one_refusal
one_refusal_for (generating number name) = one_refusal
one_refusal_for (showing name) = one_refusal
one_refusal_for (grouping name) = one_to_group
one_refusal_for (scanning path) = λ file k n kind other p q. absurd p

-- ---- a file that is taken is not refused

fits : (K : List Bound) (s : Bound) (aggregate : Aggregate) (k : ℕ) → K ≡ s ∷ [] → CanGroup aggregate s → Unfit k K → ⊥
fits K s aggregate k is can u = (subst (Unfit k) is u).1 aggregate can

pub not_unfit : (file : List ℕ) (s : Bound) (aggregate : Aggregate) → Accepts file (s ∷ []) → CanGroup aggregate s → (k : ℕ) (kind : FileKind) → RefusesToGroup file k kind → ⊥
not_unfit file s aggregate accepts can k kind (inl p) = not_both file (s ∷ []) k kind accepts p
not_unfit file s aggregate accepts can k kind (inr u) = fits u.statements s aggregate k (one_accepted file u.statements (s ∷ []) u.accepted accepts) can u.unfit

-- ---- where no file is accepted, none is taken

to_group : (name : List ℕ) (s s' : ShelfSide) (status : Status) → IsUnaccepted name s s' status → IsUntaken RefusesToGroup name s s' status
to_group name s s' ShelfFault why = why
to_group name s s' FileTooLong why = why
to_group name s s' (Refused k kind) why = record { file = why.file; holds = why.holds; refused = inl why.refused }
to_group name s s' Memory why = why
to_group name s s' Done why = why
to_group name s s' Usage why = why
to_group name s s' ReadFault why = why
to_group name s s' WriteFault why = why
to_group name s s' InputLimit why = why

-- statements that are accepted, and are not one to group
pub unfit_file : (name : List ℕ) (s s' : ShelfSide) (K : List Bound) (k : ℕ) → Accepted name s s' K → Unfit k K → IsUntaken RefusesToGroup name s s' (Refused k Group)
unfit_file name s s' K k a u = record { file = a.file; holds = a.holds; refused = inr (record { statements = K; accepted = a.accepted; unfit = u; group = refl }) }
