-- What a run of a runner says of the machine of the definition.
use Rattle.std.proofs.Common.{◌≡◌, ℕ, zero, suc, ◌+◌, List, [], ◌++◌, Option, Some, None, Bool, refl, sym, ap, subst, ◌∙◌, arith}
use Rattle.arc_base.specs.declared.outside.Stream.TheVariants.{Out, Err}
use Rattle.arc_base.specs.Event.{Event}
use Rattle.arc_base.specs.Outside.{Rose}
use Rattle.rv32_isa.specs.declared.image.HookAt.{HookAt}
use Rattle.rv32_isa.specs.Image.{Image}
use Rattle.rv32_isa.specs.State.{State, first_state}
use Rattle.rv32_isa.specs.Machine.{Standing, Runs, HasExited, HasFaulted, Lives, stood, standing, start, machine, phase_of, shown_by}
use Rattle.rv32_runner.specs.declared.runner.RunEnd.{RunEnd}
use Rattle.rv32_runner.specs.declared.runner.RunEnd.TheVariants.{Exited, Spent, Fault, ReadFault, WriteFault}
use Rattle.rv32_runner.specs.Streams.{Streams, MayGive, Got, bytes_on}
use Rattle.rv32_runner.specs.Runs.{Carried, Ends, Ran, on}
use Rattle.rv32_runner.specs.Told.{Tells, IsOfMachine, Told, IsSeen, Saw, Causes}
use Rattle.rv32_runner.proofs.Carrying.{go_on, standing_then}

module _ (hooks : List HookAt) (done left : ℕ) (b c : Streams) (s u : State) (h : Carried done b s u c) where
  -- after the instructions that were carried out the rest of them starts
  goes_on : (rest : List ℕ) (may : MayGive c.input.left c.input.ended rest) →
      standing hooks (done + left) (on s (h.given ++ rest)) [] ≡ standing hooks left (on u rest) (h.leads hooks rest may).shown
  goes_on rest may = standing_then hooks done left (on s (h.given ++ rest)) [] ∙ ap (λ x. go_on x (standing hooks left)) (h.leads hooks rest may).stands

  -- the rest of them leaves the streams as they were
  told_same : (answer : RunEnd) (t : State) (d : Streams) (rest : List ℕ) → d ≡ c → MayGive d.input.left d.input.ended rest →
      ((shown : List Event) → Tells answer t rest shown (standing hooks left (on u rest) shown)) → Told hooks (done + left) b s answer t d rest
  told_same answer t d rest kept may stands =
      let there : MayGive c.input.left c.input.ended rest = subst (λ x. MayGive x.input.left x.input.ended rest) kept may in
      let way = h.leads hooks rest there in
      record {
        given = h.given;
        gave = subst (λ x. x.input.gave ≡ b.input.gave ++ h.given) (sym kept) h.gave.gave;
        input = h.gave.before rest there;
        faults = subst (λ x. x.input.faults ≡ b.input.faults) (sym kept) h.faults;
        shown = way.shown;
        stands = subst (Tells answer t rest way.shown) (sym (goes_on rest there)) (stands way.shown);
        out = subst (λ x. Got b.out x.out (bytes_on Out way.shown)) (sym kept) way.out;
        err = subst (λ x. Got b.err x.err (bytes_on Err way.shown)) (sym kept) way.err;
      }

told : (hooks : List HookAt) (done left : ℕ) (b c : Streams) (s u : State) (answer : RunEnd) (t : State) (d : Streams) → Carried done b s u c →
    Ends left u c answer t d → IsOfMachine answer → (rest : List ℕ) → MayGive d.input.left d.input.ended rest → Told hooks (done + left) b s answer t d rest
told hooks done left b c s u Spent t d h (none, (same, kept)) is rest may =
    told_same hooks done left b c s u h Spent t d rest kept may
    (λ shown. ap (λ k. standing hooks k (on u rest) shown) none ∙ ap (λ x. Runs shown (on x rest)) (sym same))
told hooks done zero b c s u (Exited status) t d h (some, halts) is rest may = absurd (omega (arith, some))
told hooks done (suc k) b c s u (Exited status) t d h (some, ((same, kept), halts)) is rest may =
    told_same hooks done (suc k) b c s u h (Exited status) t d rest kept may
    (λ shown. ap (stood hooks (standing hooks k) (on u rest) shown) (halts rest) ∙ ap (λ x. HasExited shown status (on x rest)) (sym same))
told hooks done zero b c s u (Fault kind pc word) t d h (some, halts) is rest may = absurd (omega (arith, some))
told hooks done (suc k) b c s u (Fault kind pc word) t d h (some, ((same, kept), halts)) is rest may =
    told_same hooks done (suc k) b c s u h (Fault kind pc word) t d rest kept may
    (λ shown. ap (stood hooks (standing hooks k) (on u rest) shown) (halts rest) ∙ ap (λ x. HasFaulted shown kind pc word (on x rest)) (sym same))
told hooks done left b c s u ReadFault t d h e is rest may = absurd is
told hooks done left b c s u (WriteFault stream) t d h e is rest may = absurd is

pub tells : (hooks : List HookAt) (n : ℕ) (b : Streams) (s : State) (answer : RunEnd) (t : State) (d : Streams) → Ran n b s answer t d →
    IsOfMachine answer → (rest : List ℕ) → MayGive d.input.left d.input.ended rest → Told hooks n b s answer t d rest
tells hooks n b s answer t d h is rest may =
    subst (λ k. Told hooks k b s answer t d rest) (sym h.all) (told hooks h.done h.left b h.mid s h.at answer t d h.carried h.ends is rest may)

-- ---- what is seen of an image

-- how a run that stands so is seen
seen_phase : (live : Lives) (answer : RunEnd) (t : State) (rest : List ℕ) (shown : List Event) (x : Standing) → Tells answer t rest shown x →
    IsSeen live answer t (phase_of live x)
seen_phase live Spent t rest shown x e = ap (phase_of live) e
seen_phase live (Exited status) t rest shown x e = ap (phase_of live) e
seen_phase live (Fault kind pc word) t rest shown x e = ap (phase_of live) e
seen_phase live ReadFault t rest shown x e = absurd e
seen_phase live (WriteFault stream) t rest shown x e = absurd e

seen_shown : (answer : RunEnd) (t : State) (rest : List ℕ) (shown : List Event) (x : Standing) → Tells answer t rest shown x → shown_by x ≡ shown
seen_shown Spent t rest shown x e = ap shown_by e
seen_shown (Exited status) t rest shown x e = ap shown_by e
seen_shown (Fault kind pc word) t rest shown x e = ap shown_by e
seen_shown ReadFault t rest shown x e = absurd e
seen_shown (WriteFault stream) t rest shown x e = absurd e

module _ (live : Lives) (image : Image) where
  -- where the run of the image stands is what is seen of it
  abbrev Stands : Type 0
  Stands = (input : List ℕ) (n : ℕ) → (machine live image input n).phase ≡ phase_of live (standing image.hooks n (start image input) [])

  abbrev Shows : Type 0
  Shows = (input : List ℕ) (n : ℕ) → (machine live image input n).events ≡ shown_by (standing image.hooks n (start image input) [])

  pub saw : Stands → Shows → (n : ℕ) (b : Streams) (answer : RunEnd) (t : State) (d : Streams) → Ran n b (first_state image) answer t d →
      IsOfMachine answer → (rest : List ℕ) → MayGive d.input.left d.input.ended rest → Saw live image n b answer t d rest
  saw stands shows n b answer t d h is rest may =
      let says = tells image.hooks n b (first_state image) answer t d h is rest may in
      let input = says.given ++ rest in
      let events : (machine live image input n).events ≡ says.shown = shows input n ∙ seen_shown answer t rest says.shown _ says.stands in
      record {
        given = says.given;
        gave = says.gave;
        input = says.input;
        faults = says.faults;
        phase = subst (IsSeen live answer t) (sym (stands input n)) (seen_phase live answer t rest says.shown _ says.stands);
        out = subst (λ es. Got b.out d.out (bytes_on Out es)) (sym events) says.out;
        err = subst (λ es. Got b.err d.err (bytes_on Err es)) (sym events) says.err;
      }

-- ---- which count rose

-- no count rose yet; some source may always give
record Quiet (b c : Streams) : Type 0 where
  input : c.input.faults ≡ b.input.faults
  out : c.out.faults ≡ b.out.faults
  err : c.err.faults ≡ b.err.faults

-- a source may always give something
some_rest : (left : Option (List ℕ)) (ended : Bool) → (rest : List ℕ) × MayGive left ended rest
some_rest None ended = ([], λ over. refl)
some_rest (Some left) ended = (left, refl)

quiet : (count : ℕ) (b c : Streams) (s u : State) → Carried count b s u c → Quiet b c
quiet count b c s u h =
    let rest = some_rest c.input.left c.input.ended in
    let way = h.leads [] rest.0 rest.1 in
    record { input = h.faults; out = way.out.faults; err = way.err.faults }

abbrev Silent : Streams → Streams → Type 0
Silent b d = (d.input.faults ≡ b.input.faults) × ((d.out.faults ≡ b.out.faults) × (d.err.faults ≡ b.err.faults))

silent : (b c d : Streams) → Quiet b c → d ≡ c → Silent b d
silent b c d q e = subst (Silent b) (sym e) (q.input, (q.out, q.err))

cause : (left : ℕ) (b c : Streams) (u : State) (answer : RunEnd) (t : State) (d : Streams) → Quiet b c → Ends left u c answer t d → Causes answer b d
cause left b c u Spent t d q (none, (same, kept)) = silent b c d q kept
cause left b c u (Exited status) t d q (some, ((same, kept), halts)) = silent b c d q kept
cause left b c u (Fault kind pc word) t d q (some, ((same, kept), halts)) = silent b c d q kept
cause left b c u ReadFault t d q (some, f) =
    (subst (λ k. Rose k d.input.faults) q.input f.rose, (ap (λ x. x.faults) f.out ∙ q.out, ap (λ x. x.faults) f.err ∙ q.err))
cause left b c u (WriteFault Out) t d q (some, (bytes, (writes, (lost, (same, (input, err)))))) =
    (subst (λ k. Rose k d.out.faults) q.out lost.rose, (ap (λ x. x.faults) input ∙ q.input, ap (λ x. x.faults) err ∙ q.err))
cause left b c u (WriteFault Err) t d q (some, (bytes, (writes, (lost, (same, (input, out)))))) =
    (subst (λ k. Rose k d.err.faults) q.err lost.rose, (ap (λ x. x.faults) input ∙ q.input, ap (λ x. x.faults) out ∙ q.out))

pub causes : (n : ℕ) (b : Streams) (s : State) (answer : RunEnd) (t : State) (d : Streams) → Ran n b s answer t d → Causes answer b d
causes n b s answer t d h = cause h.left b h.mid h.at answer t d (quiet h.done b h.mid s h.at h.carried) h.ends
