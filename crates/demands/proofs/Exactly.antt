-- Demand 2 of the check: its answer is accepted exactly where the derivation follows the rules, else it names the first bad rule.
use mathlib.Core.Path.{sym, ap, ◌∙◌}
use Rattle.std.specs.Prelude.{Ok}
use Rattle.agreement.proofs.Walks.{first_refusal, exactness}
use Rattle.check_file.specs.View.{answer, refusal}
use Rattle.check_file.proofs.One.{one_check}
use Rattle.demands.specs.Demands.{Demand2}

pub demand_2 : Demand2
unfolding answer
demand_2 file checked p K e = record {
  exactly = (λ a. (exactness file K e).0 (sym p ∙ ap answer a), λ d. one_check file checked (Ok tt) p (sym ((exactness file K e).1 d)));
  first_bad = λ r a. first_refusal file K e (refusal r) (sym p ∙ ap answer a);
}
