-- A trap writes its line and ends the program; and labels lead to the code of the lines at which they stand.
use Rattle.std.proofs.Common.{◌≡◌, suc, ◌<◌, ◌≤◌, List, [], ◌∷◌, map, true, refl, sym, subst, ◌∙◌, arith}
use Rattle.std.proofs.lemmas.Bool.{false≢true}
use Rattle.arc_base.specs.Event.{writes}
use Rattle.arc_base.specs.declared.outside.Stream.TheVariants.{Err}
use Rattle.arc_base.specs.Behaviour.{no_objects}
use Rattle.nim_program.specs.Traps.{Trap, Overflow, DivisionByZero, IndexOutOfBounds, OutOfRange, NilDereference, LengthChanged, CallDepth}
use Rattle.nim_program.specs.Traps.{OutOfMemory, trap_text}
use Rattle.nim_meaning.specs.Acts.{line_of}
use Rattle.flat_code.specs.declared.block.BlockLine.{BlockLine}
use Rattle.flat_code.specs.Codes.{block_plain}
use Rattle.word_code.specs.declared.word.WordInstr.{WordInstr}
use Rattle.word_code.specs.declared.word.WordInstr.TheVariants.{Label, Call}
use Rattle.word_code.specs.Memory.{Memory}
use Rattle.word_code.specs.Words.{Vars, WordState}
use Rattle.word_code.specs.RoutineTable.{WritesTrap, trap_number, is_built}
use Rattle.word_code.proofs.ForCallers.{stops_on, Within, at, run_label, AlwaysStops}
use Rattle.word_lowering.specs.declared.homes.TheConstants.{FIRST}
use Rattle.word_lowering.specs.Operations.{trap_label}
use Rattle.word_lowering.specs.LineCode.{Around, label_before, behind_line, lines_code}
use Rattle.word_lowering.specs.Lowered.{any_branches}
use Rattle.word_lowering.proofs.CallLabels.{ArgumentLabels}
use Rattle.word_lowering.proofs.LabelFacts.{line_branches}
use Rattle.word_lowering.proofs.LabelsHere.{first_lines, own_label_at, own_label_here, trap_label_here, branches_here, label_leads}
use Rattle.word_lowering.proofs.TrapEnds.{trap_stands}
use Rattle.word_lowering.proofs.Sites.{lines_of, around, Site}
use Rattle.word_lowering.proofs.Related.{Both, body_of, within, MemoryGood, sites_of}
use Rattle.word_lowering.proofs.Lines.{Basis, IsGood, all_procs, data_there, lower, starts}
use Rattle.word_lowering.proofs.Settling.{TrapStops, TrapsStop, LabelsLead, OwnLabels, code_of_line}

module _ (x : Basis) where
  -- from the label on
  label_stops : (c : Within) (sites : List Site) (m : Memory) → MemoryGood x.table x.blocks sites x.first m → (trap : Trap) → is_built trap ≡ true →
      (k : List WordInstr) (v g : Vars)
      → AlwaysStops (lower x) (at c m (Label (trap_label trap) ∷ Call FIRST (trap_number trap) ∷ k) v g) (writes Err (line_of (trap_text trap))) 7 1 no_objects
  label_stops c sites m good trap built k v g =
      let l1 : List WordInstr = Call FIRST (trap_number trap) ∷ k in
      let s0 : WordState = at c m (Label (trap_label trap) ∷ l1) v g in
      let s1 : WordState = at c m l1 v g in
      let r1 = run_label x.live (all_procs x) c m l1 v g (trap_label trap) in
      let called = x.kept (WritesTrap trap built) tt s1 FIRST k (record { next = refl; given = tt }) good.sized (data_there x sites m good) tt in
      subst (λ left. AlwaysStops (lower x) s0 (writes Err (line_of (trap_text trap))) 7 1 left) (x.none called.memory)
      (stops_on (lower x) 1 1 6 1 s0 s1 [] (writes Err (line_of (trap_text trap))) _ r1 called.stops)

  module _ (g : Both) (line : BlockLine) (rest : List BlockLine) (y : IsGood x (starts g line rest)) where
    built_stops : (trap : Trap) → is_built trap ≡ true → trap_label trap < 8
        → ((k : List WordInstr) → any_branches (trap_label trap) (code_of_line x g line rest k) ≡ true) → TrapStops x (starts g line rest) trap
    built_stops trap built low leads =
        let here : Around = around x.table x.blocks (body_of g) in
        let behind : List WordInstr = behind_line here (block_plain line) (lines_code here (map block_plain rest) []) in
        let branches = branches_here x.table x.blocks (body_of g) (trap_label trap) line rest y.stands (leads behind) in
        let s = trap_stands (first_lines (around x.table x.blocks (body_of g)) (lines_of (body_of g))) trap built branches in
        record {
          there = Label (trap_label trap) ∷ Call FIRST (trap_number trap) ∷ s.0;
          stands = trap_label_here x.table x.blocks (body_of g) (trap_label trap) low ∙ s.1;
          stops = λ v w. label_stops (within x.table x.blocks g) (sites_of g) g.memory y.memory trap built s.0 v w;
        }

    unbuilt_stops : (trap : Trap) → 6 ≤ trap_label trap → trap_label trap ≤ 7
        → ((k : List WordInstr) → any_branches (trap_label trap) (code_of_line x g line rest k) ≡ true) → TrapStops x (starts g line rest) trap
    unbuilt_stops trap low high leads =
        absurd (false≢true (sym (line_branches (around x.table x.blocks (body_of g)) (trap_label trap) (label_before (map block_plain rest)) (block_plain line)
        low high (omega arith)) ∙ leads []))

    stops : (trap : Trap) → ((k : List WordInstr) → any_branches (trap_label trap) (code_of_line x g line rest k) ≡ true)
        → TrapStops x (starts g line rest) trap
    stops Overflow leads = built_stops Overflow refl (omega arith) leads
    stops DivisionByZero leads = built_stops DivisionByZero refl (omega arith) leads
    stops IndexOutOfBounds leads = built_stops IndexOutOfBounds refl (omega arith) leads
    stops OutOfRange leads = built_stops OutOfRange refl (omega arith) leads
    stops LengthChanged leads = built_stops LengthChanged refl (omega arith) leads
    stops CallDepth leads = built_stops CallDepth refl (omega arith) leads
    stops NilDereference leads = unbuilt_stops NilDereference (omega arith) (omega arith) leads
    stops OutOfMemory leads = unbuilt_stops OutOfMemory (omega arith) (omega arith) leads

  pub traps_stop : TrapsStop x
  traps_stop g line rest y trap leads = stops g line rest y trap leads

  pub labels_lead : LabelsLead x
  labels_lead g line rest after name y e =
      let l = label_leads x.table x.blocks (body_of g) name after y.linked.0 e in (l.there, l.stands)

  pub own_labels : OwnLabels x
  own_labels g line rest y = own_label_here x.table x.blocks (body_of g) line rest y.stands

  -- those that the code of a call has for arguments
  pub argument_labels : ArgumentLabels x
  argument_labels g line rest y i less = own_label_at x.table x.blocks (body_of g) (suc i) line rest y.stands (omega (arith, less))
