-- The label code of word code: what it does, and what it may be laid out by.
use Rattle.std.proofs.Common.{◌≡◌, ℕ, ◌+◌, ◌*◌, ◌≤◌, List, [], ◌∷◌, length, Bool}
use Rattle.std.proofs.Common.{true, false, refl, sym, ap, subst, ◌∙◌, arith, inl, inr}
use Rattle.std.specs.Prelude.{nat_lt}
use Rattle.std.proofs.lemmas.Bool.{cases_Bool, and_from, and_parts, true≢false}
use Rattle.arc_base.specs.Event.{Event}
use Rattle.arc_base.specs.Behaviour.{Behaviour, Agrees, Sound}
use Rattle.arc_base.specs.Pace.{Paced}
use Rattle.arc_base.specs.Stepping.{behaviour}
use Rattle.rv32_isa.specs.declared.instr.Instr.{Instr}
use Rattle.rv32_isa.specs.declared.instr.Instr.TheVariants.{Sw, Ebreak}
use Rattle.rv32_isa.specs.declared.label.LabelLine.{LabelLine}
use Rattle.rv32_isa.specs.declared.label.LabelLine.TheVariants.{Do}
use Rattle.rv32_isa.specs.Machine.{Lives}
use Rattle.rv32_isa.specs.Labels.{Addresses, Rise, marks, begins, leads, hooks_lead}
use Rattle.rv32_isa.specs.LabelsMeaning.{OfDataAndHeap, label_meaning}
use Rattle.word_code.specs.declared.word.ProcKind.{ProcKind}
use Rattle.word_code.specs.declared.word.ProcKind.TheVariants as kind
use Rattle.word_code.specs.declared.word.WordInstr.{WordInstr}
use Rattle.word_code.specs.declared.word.WordProc.{WordProc}
use Rattle.word_code.specs.declared.word.WordCode.{WordCode}
use Rattle.word_code.specs.Memory.{data_of}
use Rattle.word_code.specs.Words.{Fresh, from_proc, first_of, chain, is_kind, is_no_hook, have_no_hooks, are_procs, may_start, is_word_code, start}
use Rattle.word_code.specs.Words.{if_formed, step_of, word_meaning}
use Rattle.reg_scan.specs.declared.homes.Homes.{Homes}
use Rattle.rv32_codegen.specs.Code.{does, sum, shift, negative, lines_code, hook_of, entry_code, homes_code, start_code, code_of}
use Rattle.rv32_codegen.specs.Stack.{call_size, counted_size}
use Rattle.rv32_codegen.specs.Layout.{is_none, enters_no_hook}
use Rattle.rv32_codegen.specs.Lowering.{AllHomes, CanRun, DoesWords, AlwaysDoes, most_lines}
use Rattle.rv32_codegen.proofs.Chunks.{line_long, entry_long, body, body_split, own_body, leads_own, unhooked_own}
use Rattle.rv32_codegen.proofs.Lookups.{Layout, procs_code, number_is}
use Rattle.rv32_codegen.proofs.Frames.{IsLaid, Setting}
use Rattle.rv32_codegen.proofs.Depth.{need, chain_fits, need_most, proc_parts, kind_known}
use Rattle.rv32_codegen.proofs.HomeFrames.{homes_for, frame_is, size_most, laid_all, homes_are}
use Rattle.rv32_codegen.proofs.Start.{Holding}
use Rattle.rv32_codegen.proofs.Followed.{follows}

-- ---- agreement

-- word code that is sound is well formed
formed : (b : Bool) (x : Behaviour Event) → Sound (if_formed b x) → b ≡ true
formed true x ok = refl
formed false x ok = absurd (ok.no_fault 0 refl)

counts_first : (k : ProcKind) → may_start k ≡ true → k ≡ kind.Counted
counts_first kind.Counted h = refl
counts_first (kind.Hook kind of) h = absurd (true≢false (sym h))
counts_first kind.Uncounted h = absurd (true≢false (sym h))

abbrev DoesSome : WordCode → List LabelLine → Lives → Addresses → (heap stack : ℕ) → (input : List ℕ) → Type 0
DoesSome code lines live at heap stack input =
    (fresh : Fresh) × (Sound (word_meaning live code fresh heap stack input) → DoesWords lines code live at fresh heap stack input)

module _ (code : WordCode) (homes : List Homes) (all : AllHomes code.procs homes) (live : Lives) (at : Addresses) (heap stack : ℕ) (input : List ℕ)
    (alone : OfDataAndHeap live) (rises : Rise at (marks (code_of code.procs homes))) (can : CanRun code homes heap stack)
    (is_code : is_word_code code ≡ true) where
  ok : are_procs code.procs ≡ true
  ok = (and_parts (are_procs code.procs) _ is_code).0

  starts : (first_of (from_proc 0 code.procs)).kind ≡ kind.Counted
  starts = counts_first (first_of (from_proc 0 code.procs)).kind (and_parts (are_procs code.procs) _ is_code).1

  abbrev lay : Layout
  lay = homes_for code.procs homes

  abbrev size_of : WordProc → ℕ
  size_of = call_size code.procs homes

  same_code : code_of code.procs homes ≡ start_code (procs_code lay code.procs)
  same_code = ap start_code (homes_are lay code.procs homes all ok (λ n e. refl))

  laid : (n : ℕ) (q : WordProc) (tail : List WordProc) → from_proc n code.procs ≡ q ∷ tail → IsLaid (lay q.number) q
  laid n q tail e = subst (λ m. IsLaid (lay m) q) (sym (number_is n code.procs q tail e)) (laid_all n code.procs homes q tail all ok e)

  setting : Setting
  setting = record {
    live = live;
    lay = lay;
    procs = code.procs;
    need = need code.procs size_of;
    total = counted_size code.procs homes;
    at = at;
    rises = subst (λ l. Rise at (marks l)) same_code rises;
    laid = laid;
    alone = alone;
    fits = λ n q tail e.
        let own = size_most code.procs homes n q tail all e in
        let is = ap (λ m. (homes_for code.procs homes m).frame) (number_is n code.procs q tail e) in
        omega (arith, own, is, need_most (chain code.procs size_of (length code.procs)) n code.procs q tail e);
    chains = λ p q ptail qtail before to callee rest found split there f.
        subst (λ n. n + q.room + need code.procs size_of q ≤ need code.procs size_of p) (frame_is code.procs homes q.number)
        (chain_fits code.procs size_of p q ptail qtail before to callee rest can.no_circle found split there f);
  }

  room : Holding setting code.statics heap stack
  unfolding setting
  room =
      let least = can.stack_least in
      let sixteen = can.stack_whole in
      record {
        starts = starts;
        statics_most = omega (arith, can.statics_most);
        heap_most = can.heap_most;
        stack_most = can.stack_most;
        stack_whole = omega (arith, sixteen);
        stack_least = omega (arith, least);
      }

  abbrev high : Fresh → Behaviour Event
  high fresh = behaviour (step_of live code.procs fresh) (0, start code heap stack input)

  abbrev low : List LabelLine → Behaviour Event
  low lines = label_meaning live lines at (data_of heap stack code.statics) heap stack input

  does_formed : (fresh : Fresh) × (Sound (high fresh) → Agrees (low (code_of code.procs homes)) (high fresh)
      × Paced 32 (low (code_of code.procs homes)) (high fresh))
  unfolding setting
  does_formed =
      let x = follows setting code.statics heap stack input room in (
        x.0,
        λ sound. let y = x.1 sound in (
          subst (λ l. Agrees (low l) (high x.0)) (sym same_code) y.agrees,
          subst (λ l. Paced 32 (low l) (high x.0)) (sym same_code) y.paced,
        ),
      )

  pub does_words : DoesSome code (code_of code.procs homes) live at heap stack input
  does_words =
      let x = does_formed in
      let is : word_meaning live code x.0 heap stack input ≡ high x.0 = ap (λ b. if_formed b (high x.0)) is_code in (
        x.0,
        λ sound. let y = x.1 (subst Sound is sound) in record {
          agrees = subst (Agrees (low (code_of code.procs homes))) (sym is) y.0;
          paced = subst (Paced 32 (low (code_of code.procs homes))) (sym is) y.1;
        },
      )

pub always_does : (code : WordCode) (homes : List Homes) → AllHomes code.procs homes → AlwaysDoes (code_of code.procs homes) code homes
always_does code homes all live at heap stack input alone rises can = elim (cases_Bool (is_word_code code)) [
  | inl is ↦ does_words code homes all live at heap stack input alone rises can is
  | inr not ↦ (
    λ n. [],
    λ sound. absurd (true≢false (sym (formed (is_word_code code) _ sound) ∙ not)),
  )
]

-- ---- what it may be laid out by

begins_does : (is : List Instr) (rest : List LabelLine) → begins rest ≡ true → begins (does is rest) ≡ true
begins_does [] rest h = h
begins_does (i ∷ is) rest h = refl

hook_leads : (k : ProcKind) (rest : List LabelLine) → is_kind k ≡ true → begins rest ≡ true → leads (hook_of k) rest ≡ true
hook_leads kind.Counted rest h e = refl
hook_leads (kind.Hook kind of) rest h e = and_from (nat_lt kind 4) (begins rest) h e
hook_leads kind.Uncounted rest h e = refl

homes_lead : (procs : List WordProc) (homes : List Homes) → are_procs procs ≡ true → hooks_lead (homes_code procs homes) ≡ true
homes_lead [] homes h = refl
homes_lead (p ∷ procs) [] h = refl
homes_lead (p ∷ procs) (own ∷ homes) h =
    let parts = proc_parts p procs h in
    let lines = lines_code own p p.lines (Do Ebreak ∷ homes_code procs homes) in
    let rest = entry_code own p lines in
    let first : begins rest ≡ true = begins_does (sum 2 2 (negative own.frame)) _ (begins_does (shift 3 p.room) (Do (Sw 2 1 0) ∷ lines) refl) in
    and_from (leads (hook_of p.kind) rest) (hooks_lead rest) (hook_leads p.kind rest (kind_known p parts.0) first)
    (ap hooks_lead (body_split own p (homes_code procs homes))
    ∙ leads_own p.number (body own p) (homes_code procs homes) (own_body own p) (homes_lead procs homes parts.1))

pub code_leads : (code : WordCode) (homes : List Homes) → is_word_code code ≡ true → hooks_lead (code_of code.procs homes) ≡ true
code_leads code homes h = homes_lead code.procs homes (and_parts (are_procs code.procs) _ h).0

no_hook_of : (k : ProcKind) → is_no_hook k ≡ true → is_none (hook_of k) ≡ true
no_hook_of kind.Counted h = refl
no_hook_of (kind.Hook kind of) h = h
no_hook_of kind.Uncounted h = refl

homes_unhooked : (procs : List WordProc) (homes : List Homes) → have_no_hooks procs ≡ true → enters_no_hook (homes_code procs homes) ≡ true
homes_unhooked [] homes h = refl
homes_unhooked (p ∷ procs) [] h = refl
homes_unhooked (p ∷ procs) (own ∷ homes) h =
    let parts = and_parts (is_no_hook p.kind) (have_no_hooks procs) h in
    let rest = entry_code own p (lines_code own p p.lines (Do Ebreak ∷ homes_code procs homes)) in
    and_from (is_none (hook_of p.kind)) (enters_no_hook rest) (no_hook_of p.kind parts.0)
    (ap enters_no_hook (body_split own p (homes_code procs homes))
    ∙ unhooked_own p.number (body own p) (homes_code procs homes) (own_body own p) (homes_unhooked procs homes parts.1))

-- where no procedure is a user's hook no label is the entry of one
pub code_unhooked : (procs : List WordProc) (homes : List Homes) → have_no_hooks procs ≡ true → enters_no_hook (code_of procs homes) ≡ true
code_unhooked procs homes h = homes_unhooked procs homes h

lines_long : (h : Homes) (p : WordProc) (lines : List WordInstr) (k : List LabelLine) → length (lines_code h p lines k) ≤ 12 * length lines + length k
lines_long h p [] k = omega arith
lines_long h p (l ∷ lines) k = omega (arith, line_long h p l (lines_code h p lines k), lines_long h p lines k)

pub code_long : (procs : List WordProc) (homes : List Homes) → length (code_of procs homes) ≤ most_lines procs
code_long [] homes = omega arith
code_long (p ∷ procs) [] = omega arith
code_long (p ∷ procs) (h ∷ homes) =
    let rest = Do Ebreak ∷ homes_code procs homes in
    let lines = lines_code h p p.lines rest in
    omega (
      arith,
      entry_long h p lines,
      lines_long h p p.lines rest,
      code_long procs homes,
    )
