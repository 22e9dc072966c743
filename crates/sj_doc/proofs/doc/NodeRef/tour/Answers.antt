use Rattle.sj_doc.proofs.Touring.{sets_out}
use Rattle.sj_doc.proofs.doc.NodeRef.tour.Goals as goal

pub invariant_of-result : goal.invariant_of-result
invariant_of-result c = (sets_out c.args.self.doc.now c.args.self.at c.args.self.in_range).0

pub returns : goal.returns
returns c = (sets_out c.args.self.doc.now c.args.self.at c.args.self.in_range).1
