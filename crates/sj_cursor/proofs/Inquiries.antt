-- What an inquiry finds.
use Rattle.std.proofs.Common.{◌≡◌, ℕ, ap, ◌∙◌}
use Rattle.sj_path_tree.specs.View.{path_of}
use Rattle.sj_path_tree.specs.Vars.{Variables}
use Rattle.sj_path_tree.specs.declared.tree.Path.{Path}
use Rattle.sj_item.specs.Items.{ItemValue}
use Rattle.sj_plain_path.specs.Chains.{below}
use Rattle.sj_plain_path.specs.Looks.{Look, Finds}
use Rattle.sj_plain_path.specs.declared.chain.Chain.{Chain}
use Rattle.sj_plain_path.specs.declared.look.Limit.{Limit}
use Rattle.sj_plain_path.specs.declared.opening.Opening.TheVariants.{AsItIs}
use Rattle.sj_cursor.specs.Inquiries.{IsAsking}
use Rattle.sj_cursor.specs.Meaning.{path_trace}
use Rattle.sj_cursor.specs.Sequel.{Sequel}
use Rattle.sj_cursor.specs.declared.inquiry.Asking.{Asking}
use Rattle.sj_cursor.specs.declared.inquiry.Asking.TheVariants as asking
use Rattle.sj_cursor.proofs.PlainPaths.{plain_finds}

pub found_by_chain : (path : Path) (vars : Variables) (by : Asking) (chain : Chain) (x : ItemValue) (limit wanted : Limit) (look : Look) (a b : ℕ)
    → IsAsking path vars by → by ≡ asking.Chain chain → limit ≡ wanted → Finds limit (below AsItIs chain.links.items x) look a b → Finds wanted (path_trace (path_of path) vars x) look a b
found_by_chain path vars by chain x limit wanted look a b inv is same k = plain_finds wanted (path_of path) vars x chain look a b (rw is at inv) (rw same at k)

-- a cursor of the path that was sent back to a root
pub sent_back : (path : Path) (vars : Variables) (x : ItemValue) (value old new asked : Sequel)
    → (value.path ≡ path) × (value.vars ≡ vars) → old ≡ value → new.left ≡ path_trace (path_of old.path) old.vars x → new.path ≡ old.path → asked ≡ new
    → (asked.left ≡ path_trace (path_of path) vars x) × (asked.path ≡ path)
sent_back path vars x value old new asked is held left same now = (
  ap (λ (q : Sequel). q.left) now
      ∙ left
      ∙ ap (λ (q : Sequel). path_trace (path_of q.path) q.vars x) held
      ∙ ap (λ p. path_trace (path_of p) value.vars x) is.0
      ∙ ap (λ v. path_trace (path_of path) v x) is.1,
  ap (λ (q : Sequel). q.path) now ∙ same ∙ ap (λ (q : Sequel). q.path) held ∙ is.0,
)
