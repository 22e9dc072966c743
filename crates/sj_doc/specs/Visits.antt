-- What a visit of a tour stands for.
use Rattle.std.specs.Prelude.{◌≡◌, Bool, false, Option, Some, None, IfSome, ⊤}
use Rattle.sj_doc.specs.declared.tour.Visit.{Visit}
use Rattle.sj_doc.specs.declared.tour.Visit.TheVariants as visits
use Rattle.sj_doc.specs.Tours.{Visited, enter, leave, leaf, hands_out}
use Rattle.sj_doc.specs.declared.doc.Member.{Member}
use Rattle.sj_doc.specs.Listed.{member_of, node_key}

abbrev pub visited : Visit → Visited
visited (visits.Enter m) = enter (member_of m)
visited (visits.Leave kind) = leave kind
visited (visits.Leaf m) = leaf (member_of m)

-- an answer that hands out a node
abbrev pub hands_out_some : Option Visit → Bool
hands_out_some None = false
hands_out_some (Some v) = hands_out (visited v)

-- the key that a member shows, where it shows one, is that of its node
abbrev pub ShowsItsKey : Member → Type 0
ShowsItsKey m = IfSome m.key (λ s. node_key m.node ≡ Some s.now)

-- the same of a visit
abbrev pub ShowsKey : Visit → Type 0
ShowsKey (visits.Enter m) = ShowsItsKey m
ShowsKey (visits.Leave kind) = ⊤
ShowsKey (visits.Leaf m) = ShowsItsKey m
