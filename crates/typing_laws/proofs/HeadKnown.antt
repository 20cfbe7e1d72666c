-- What is known is true behind the head of a procedure of module code.
use Rattle.std.proofs.Common.{◌≡◌, Bool, true, false, [], ◌∷◌, length, refl}
use Rattle.std.specs.Prelude.{if◌then◌else◌, Ok}
use Rattle.arc_base.specs.declared.place.Place.{Place}
use Rattle.nim_tree.specs.Statements.{Head}
use Rattle.decl_rules.specs.State.{State}
use Rattle.decl_rules.specs.Heads.{Headed}
use Rattle.decl_rules.specs.Bodies.{procedure_entry, with_procedure, behind_head}
use Rattle.decl_rules.specs.Whole.{text_rule}
use Rattle.decl_rules.specs.Rules.{IsHead}
use Rattle.typing_laws.specs.Knows.{with_facts}
use Rattle.typing_laws.specs.Trees.{NameRead}
use Rattle.typing_laws.proofs.Tests.{never, ever}
use Rattle.typing_laws.proofs.Growing.{entries_more}
use Rattle.typing_laws.proofs.Steps.{At}
use Rattle.typing_laws.proofs.HeadTypes.{own, signature_sound}
use Rattle.typing_laws.proofs.Kept.{Kept, Later}
use Rattle.typing_laws.proofs.Headings.{called, Heading, a_new_one, an_earlier, HeadIs, head_is}
use Rattle.typing_laws.proofs.KeptProcedures.{new_head}
use Rattle.typing_laws.proofs.Borrowed.{entry_fits}
use Rattle.typing_laws.proofs.Standing.{standing, is_called}

pub same_globals : (st : State) (at : Place) (h : Head) (k : Headed) → (behind_head st at h k).globals ≡ st.globals
same_globals st at h k = by_test k.is_new
  where
    by_test : (n : Bool) → (if n then with_procedure st at h k else st).globals ≡ st.globals
    by_test true = refl
    by_test false = refl

module _ (final : State) (ended : Kept final) (ruled : text_rule final.procs final.text ≡ Ok tt) where
  at_new : (st : State) (at : Place) (h : Head) (b : Bool) (k : Headed) → HeadIs st h b k → k.number ≡ length st.procs → NameRead h.name → Kept st
      → At (standing final (length st.globals)) st → Later (with_procedure st at h k) final
      → At (standing final (length st.globals)) (with_procedure st at h k)
  at_new st at h b k is e read kept at_st later =
      let here = standing final (length st.globals) in
      let there = with_facts here st.env.facts in
      let served = later.serving (called k) (new_head st at h k kept e).served in
      let q = signature_sound is.signature here at_st in
      let w = signature_sound is.signature there (record { knows = own here st at_st.knows; under = at_st.under }) in
      let entry = entry_fits here st.env.facts is at_st.knows.all q.parameters q.result
      (λ n. is_called final ended ruled st.text later.text.more at k (length st.globals) final.env.facts n later.text.is kept.globals served) read in
      let own_entry = entry_fits there st.env.facts is at_st.knows.own w.parameters w.result
      (λ n. is_called final ended ruled st.text later.text.more at k (length st.globals) st.env.facts n later.text.is kept.globals served) read in
      record {
        knows = record {
          all = record {
            sound = at_st.knows.all.sound;
            said = at_st.knows.all.said;
            entries = entries_more here st.env.entries (procedure_entry h k ∷ []) at_st.knows.all.entries (entry, tt);
          };
          own = record {
            sound = at_st.knows.own.sound;
            said = at_st.knows.own.said;
            entries = entries_more there st.env.entries (procedure_entry h k ∷ []) at_st.knows.own.entries (own_entry, tt);
          };
        };
        under = tt;
      }

  pub at_head : {st : State} {at : Place} {h : Head} {b : Bool} {k : Headed} → IsHead st at h b k → NameRead h.name → Kept st
      → At (standing final (length st.globals)) st → Later (behind_head st at h k) final → At (standing final (length st.globals)) (behind_head st at h k)
  at_head {st} {at} {h} {b} {k} head read kept at_st later = by_heading (head_is head).heading
    where
      by_new : (n : Bool) → n ≡ true → k.number ≡ length st.procs → Later (if n then with_procedure st at h k else st) final
          → At (standing final (length st.globals)) (if n then with_procedure st at h k else st)
      by_new true i e l = at_new st at h b k (head_is head) e read kept at_st l
      by_new false i e l = never i

      by_old : (n : Bool) → n ≡ false → At (standing final (length st.globals)) (if n then with_procedure st at h k else st)
      by_old true i = ever i
      by_old false i = at_st

      by_heading : Heading st h b k → At (standing final (length st.globals)) (behind_head st at h k)
      by_heading (a_new_one e n) = by_new k.is_new n e later
      by_heading (an_earlier c) = by_old k.is_new c.old
