-- What holds in states that the rules reach.
use Rattle.std.proofs.Common.{◌≡◌, ◌<◌, Bool, false, length, None, sym, ◌∙◌}
use Rattle.std.specs.Prelude.{Ok}
use Rattle.std.proofs.lemmas.Option.{slice_get_within}
use Rattle.arc_base.specs.declared.place.Place.{Place}
use Rattle.nim_tree.specs.Statements.{Head}
use Rattle.decl_rules.specs.State.{State, in_module}
use Rattle.decl_rules.specs.Heads.{Headed, Signature, head_by}
use Rattle.decl_rules.specs.Laws.{StatementsComputed}
use Rattle.decl_rules.specs.Places.{PlacesNumbered, ProcedureNumbered}
use Rattle.typing_laws.specs.Reached.{IsReached, before_all, in_another, behind_one}
use Rattle.typing_laws.proofs.Tests.{never}
use Rattle.typing_laws.proofs.Kept.{Kept}
use Rattle.typing_laws.proofs.KeptCode.{nothing_kept, module_kept, statement_kept}
use Rattle.typing_laws.proofs.Headings.{Heading, a_new_one, an_earlier, headed_by, completing}

module _ (computed : StatementsComputed) (statements : PlacesNumbered) (procedures : ProcedureNumbered) where
  reached_kept : {st : State} → IsReached st → Kept st
  reached_kept before_all = nothing_kept
  reached_kept (in_another {st} number r) = (module_kept statements procedures st number (reached_kept r)).kept
  reached_kept (behind_one {st} {x} s r e) =
      (statement_kept statements procedures ((computed in_module None st s x).1 e) (reached_kept r)).kept

  pub completed_there : (st : State) → IsReached st → (at : Place) (h : Head) (b : Bool) (s : Signature) (k : Headed) → head_by st at h b s ≡ Ok k
      → k.is_new ≡ false → k.number < length st.procs
  completed_there st r at h b s k e old = by_heading (headed_by st at h b s k e).heading
    where
      by_heading : Heading st h b k → k.number < length st.procs
      by_heading (a_new_one n new) = never (sym old ∙ new)
      by_heading (an_earlier c) =
          let served = (completing st h b k c (reached_kept r).reading.served).served in
          slice_get_within st.procs k.number served.proc served.there
