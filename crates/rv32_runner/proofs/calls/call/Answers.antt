use Rattle.std.proofs.Common.{◌≡◌, ◌≢◌, sym, ◌∙◌}
use Rattle.rv32_runner.proofs.Calling.{ran_exits, ran_out, ran_err, ran_read, ran_other}
use Rattle.rv32_runner.proofs.calls.call.Goals as goal
use Rattle.rv32_runner.proofs.calls.call.Goals.{else-number-eq64-via-then-number-eq64+else-first-eq1, else-number-eq64-via-else-number-eq64}
use Rattle.rv32_runner.proofs.calls.call.Goals.{else-number-eq64-2-via-then-number-eq64-2+else-first-eq2, else-number-eq64-2-via-else-number-eq64-2}
use Rattle.rv32_runner.proofs.calls.call.Goals.{else-number-eq63-via-then-number-eq63+else-first-eq0, else-number-eq63-via-else-number-eq63}

pub returns-then-number-eq93-clause-ran : goal.returns-then-number-eq93-clause-ran
returns-then-number-eq93-clause-ran g c = rw c.reg-first.ensures (ran_exits _ c.requires.due _ (sym c.reg-number.ensures ∙ c.if-number-eq93.true))

pub returns-then-first-eq1-clause-ran : goal.returns-then-first-eq1-clause-ran
returns-then-first-eq1-clause-ran g c =
    ran_out _ _ _ _ _ _ _ c.requires.due (sym c.reg-number.ensures ∙ c.if-number-eq64.true)
    (sym c.reg-first.ensures ∙ c.if-first-eq1.true) c.write.ensures.wrote

pub returns-then-first-eq2-clause-ran : goal.returns-then-first-eq2-clause-ran
returns-then-first-eq2-clause-ran g c =
    ran_err _ _ _ _ _ _ _ c.requires.due (sym c.reg-number.ensures ∙ c.if-number-eq64-2.true)
    (sym c.reg-first.ensures ∙ c.if-first-eq2.true) c.write-then-first-eq2.ensures.wrote

pub returns-then-first-eq0-clause-ran : goal.returns-then-first-eq0-clause-ran
returns-then-first-eq0-clause-ran g c =
    ran_read _ _ _ _ _ _ _ c.requires.due (sym c.reg-number.ensures ∙ c.if-number-eq63.true) (sym c.reg-first.ensures ∙ c.if-first-eq0.true) c.read.ensures.did

pub returns-clause-ran : goal.returns-clause-ran
returns-clause-ran g c =
    let not_out : c.reg-number.result ≡ 64 → c.reg-first.result ≢ 1 =
    elim c.else-number-eq64.branch [
      | else-number-eq64-via-then-number-eq64+else-first-eq1 w ↦ (λ n. w.if-first-eq1.false)
      | else-number-eq64-via-else-number-eq64 w ↦ (λ n. absurd (w.if-number-eq64.false n))
    ] in
    let not_err : c.reg-number.result ≡ 64 → c.reg-first.result ≢ 2 =
    elim c.else-number-eq64-2.branch [
      | else-number-eq64-2-via-then-number-eq64-2+else-first-eq2 w ↦ (λ n. w.if-first-eq2.false)
      | else-number-eq64-2-via-else-number-eq64-2 w ↦ (λ n. absurd (w.if-number-eq64-2.false n))
    ] in
    let not_in : c.reg-number.result ≡ 63 → c.reg-first.result ≢ 0 =
    elim c.else-number-eq63.branch [
      | else-number-eq63-via-then-number-eq63+else-first-eq0 w ↦ (λ n. w.if-first-eq0.false)
      | else-number-eq63-via-else-number-eq63 w ↦ (λ n. absurd (w.if-number-eq63.false n))
    ] in
    rw c.refused.ensures (ran_other _ c.requires.due _ _ _ c.reg-number.ensures c.reg-first.ensures c.if-number-eq93.false not_out not_err not_in)
