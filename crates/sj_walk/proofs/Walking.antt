-- One turn of a walk: a child that is handed out is one visit and one step.
use Rattle.std.proofs.Common.{◌≡◌, ℕ, suc, ap, sym, ◌∙◌, arith}
use Rattle.sj_base.specs.Count.{raised}
use Rattle.sj_item.specs.Items.{ItemValue, gives}
use Rattle.sj_step.specs.Trace.{Trace, visit, give, first, rest, visits_to_first}
use Rattle.sj_step.specs.Takes.{Takes, Onward}

pub raised_more : (a n : ℕ) → raised (raised a 1) n ≡ raised a (suc n)
raised_more a n = omega arith

pub raised_none : (a : ℕ) → raised a 0 ≡ a
raised_none a = omega arith

-- nothing was given, and one more visit was one more step
pub onward_visit : (t u w : Trace) (a b d : ℕ) → Onward t a u b → u ≡ visit w → d ≡ raised b 1 → Onward t a w d
onward_visit t u w a b d o e s =
    record {
      same_answer = sym (ap first e) ∙ o.same_answer;
      same_rest = sym (ap rest e) ∙ o.same_rest;
      cost_so_far = ap (λ n. raised n (visits_to_first w)) s ∙ raised_more b (visits_to_first w) ∙ sym (ap (λ v. raised b (visits_to_first v)) e) ∙ o.cost_so_far;
    }

-- one visit and then an item, which was given
pub takes_give : (t u w : Trace) (x : ItemValue) (a b d : ℕ) → Onward t a u b → u ≡ visit (give x w) → d ≡ raised b 1 → Takes t (gives x) w a d
takes_give t u w x a b d o e s =
    record {
      answers = sym (ap first e) ∙ o.same_answer;
      leaves = sym (ap rest e) ∙ o.same_rest;
      costs = s ∙ sym (ap (λ v. raised b (visits_to_first v)) e) ∙ o.cost_so_far;
    }
