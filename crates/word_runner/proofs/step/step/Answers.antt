use Rattle.std.proofs.Common.{◌≡◌, ◌≤◌, ℕ, ◌+◌, ◌%◌, ◌^◌, suc, List, [], ◌∷◌, length, drop, Option, Some, None, sym, ap, subst, ◌∙◌, arith}
use Rattle.std.specs.Prelude.{slice_get}
use Rattle.word_code.specs.declared.word.WordInstr.{WordInstr}
use Rattle.word_code.specs.declared.word.WordProc.{WordProc}
use Rattle.word_code.specs.Memory.{own_data_at}
use Rattle.word_code.specs.Words.{WordDid, does, scene_of, settled, step_lines}
use Rattle.word_runner.specs.Acts.{did}
use Rattle.word_runner.specs.Steps.{Followed}
use Rattle.word_runner.specs.View.{proc_in, proc_or, state_is}
use Rattle.word_runner.proofs.BookRows.{drop_all, drop_at, got, none_past}
use Rattle.word_runner.proofs.step.step.Goals as goal

pub returns-in-None-clause-follows : goal.returns-in-None-clause-follows
returns-in-None-clause-follows c =
    λ live rest ends.
    let run = c.args.run.now in
    let procs = c.args.procs.now in
    let s = state_is procs run rest in
    let none : slice_get procs run.frame.proc ≡ None = none_past procs run.frame.proc c.in-None.ensures.lookup.3 in
    let left : s.frame.left ≡ [] = ap (λ (p : Option WordProc). drop run.frame.at (proc_or p).lines) none ∙ drop_all [] run.frame.at (omega arith) in
    ap (step_lines live procs [] s) left

pub returns-in-None-get-clause-follows : goal.returns-in-None-get-clause-follows
returns-in-None-get-clause-follows c =
    λ live rest ends.
    let run = c.args.run.now in
    let procs = c.args.procs.now in
    let own = c.in-Some.own.now in
    let s = state_is procs run rest in
    let there = got procs run.frame.proc own c.in-Some.ensures.lookup.3.0 c.in-Some.ensures.lookup.1 in
    let le : length own.lines ≤ run.frame.at = subst (λ (l : List WordInstr). length l ≤ run.frame.at) c.as_slice.ensures c.in-None-get.ensures.lookup.3 in
    let left : s.frame.left ≡ [] = ap (λ (p : Option WordProc). drop run.frame.at (proc_or p).lines) there ∙ drop_all own.lines run.frame.at le in
    ap (step_lines live procs [] s) left

pub returns-in-Some-get-clause-follows : goal.returns-in-Some-get-clause-follows
returns-in-Some-get-clause-follows c =
    λ live rest ends.
    let run = c.args.run.now in
    let procs = c.args.procs.now in
    let own = c.in-Some.own.now in
    let line = c.in-Some-get.line.now in
    let new = c.carry.new.run in
    let s = state_is procs run rest in
    let there = got procs run.frame.proc own c.in-Some.ensures.lookup.3.0 c.in-Some.ensures.lookup.1 in
    let next : run.frame.at + 1 ≡ suc run.frame.at = omega arith in
    let lines = own.lines in
    let at = got c.as_slice.result.now run.frame.at line c.in-Some-get.ensures.lookup.3.0 c.in-Some-get.ensures.lookup.1 in
    let left : s.frame.left ≡ line ∷ drop (run.frame.at + 1) (proc_in procs run.frame.proc).lines =
    ap (λ (p : Option WordProc). drop run.frame.at (proc_or p).lines) there
    ∙ drop_at lines run.frame.at line (subst (λ (l : List WordInstr). slice_get l run.frame.at ≡ Some line) c.as_slice.ensures at)
    ∙ ap (λ (n : ℕ). line ∷ drop n lines) (sym next)
    ∙ ap (λ (p : Option WordProc). line ∷ drop (run.frame.at + 1) (proc_or p).lines) (sym there) in
    let d = own_data_at + s.frame.proc.data_from in
    let of_data = ap (λ (p : Option WordProc). (own_data_at + (proc_or p).data_from) % 2 ^ 32) there in
    let act : did (scene_of s) c.act_of-act.result ≡ does (scene_of s) line = c.act_of-act.ensures.did s.input d (of_data ∙ sym c.data_of.ensures) in
    subst (λ (l : List WordInstr). Followed (step_lines live procs [] s l) c.carry.result s (state_is procs new rest)) (sym left)
    (subst (λ (w : WordDid). Followed (settled live procs [] s (drop (run.frame.at + 1) (proc_in procs run.frame.proc).lines) w) c.carry.result s
    (state_is procs new rest))
    act (c.carry.ensures.follows live rest ends))

pub returns-in-Some-get-clause-wants : goal.returns-in-Some-get-clause-wants
returns-in-Some-get-clause-wants c = c.carry.ensures.wants

pub returns-in-Some-get-clause-kept : goal.returns-in-Some-get-clause-kept
returns-in-Some-get-clause-kept c = c.carry.ensures.kept

pub carry-requires-clause-own : goal.carry-requires-clause-own
carry-requires-clause-own c =
    got c.args.procs.now c.args.run.now.frame.proc c.in-Some.own.now c.in-Some.ensures.lookup.3.0 c.in-Some.ensures.lookup.1

pub carry-requires-clause-may : goal.carry-requires-clause-may
carry-requires-clause-may c = c.act_of-act.ensures.may
