-- `rehearsal::run_graph` meets its contract. Assumes nothing.
use Rattle.std.specs.Prelude.{ℕ, List, ◌≡◌, ◌≢◌, Result, Err}
use Rattle.std.proofs.Common.{subst, sym, ◌∙◌}
use borrow.Author.Tests.{ne_eqb}
use Rattle.refusal.specs.Numbers.{number_of}
use Rattle.refusal.specs.declared.Refusal.{Refusal}
use Rattle.machine.specs.Entries.{load_refusal, load_state, LoadAnswer}
use Rattle.machine.proofs.Answers.{passed_on, not_zero}
use Rattle.run.specs.declared.Ran.{Ran}
use Rattle.run.specs.Numbers.{RunAnswer}
use Rattle.rehearsal.specs.Rehearsed.{Rehearsed}
use Rattle.rehearsal.proofs.run_graph.Goals as goal

module _ (g inputs s order : List ℕ) (a : ℕ) where
  kept : (load_refusal g inputs s ≢ 0) → load_state g inputs s ≡ s
  unfolding load_state
  kept n = rw (ne_eqb (load_refusal g inputs s) 0 n)

  not_loaded : (e : Refusal) (exit : List ℕ) → LoadAnswer g inputs s (number_of e) exit → Rehearsed g inputs s order a (Err e) exit
  not_loaded e exit l = record {
    refused = λ n. (l.number, l.state ∙ kept n);
    run = λ z. absurd (not_zero e (l.number ∙ z));
  }

  run_on : (middle exit : List ℕ) (r : Result Ran Refusal) → LoadAnswer g inputs s 0 middle → RunAnswer g middle order a r exit → Rehearsed g inputs s order a r exit
  run_on middle exit r l ran = record {
    refused = λ n. absurd (n (sym l.number));
    run = λ z. subst (λ (x : List ℕ). RunAnswer g x order a r exit) l.state ran;
  }

pub returns-in_err-load : goal.returns-in_err-load
returns-in_err-load g c =
    let exit : List ℕ = c.load.new.state in
    record {
      answer = subst (λ (r : Result Ran Refusal). Rehearsed c.args.graph.now c.args.inputs.now c.args.state.now c.args.order.now c.args.allowance r exit) (sym (passed_on _ _ c.from_residual.ensures.1)) (not_loaded _ _ _ _ _ _ exit c.in_err-load.ensures.answer);
    }

pub returns : goal.returns
returns g c = record { answer = run_on _ _ _ _ _ _ _ _ c.in_ok-load.ensures.answer c.run_told.ensures.answer }
