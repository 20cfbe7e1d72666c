-- What a run of a compiled file says of the source's meaning.
use Rattle.std.proofs.Common.{◌≡◌, ℕ, suc, ◌+◌, List, [], ◌++◌, length, take, Option, Some, None, Bool, refl, sym, ap, subst, ◌∙◌, append_assoc, append-nil}
use Rattle.std.proofs.Math.Seq.{take-append-add}
use Rattle.arc_base.specs.declared.outside.Stream.{Stream}
use Rattle.arc_base.specs.declared.outside.Stream.TheVariants.{Out, Err}
use Rattle.arc_base.specs.Event.{Event, writes}
use Rattle.arc_base.specs.Behaviour.{Behaviour, Agrees, IsPrefix}
use Rattle.arc_base.specs.Outside.{Grown, Rose}
use Rattle.arc_base.proofs.ForCallers.{grown_more}
use Rattle.rv32_isa.specs.Image.{Image}
use Rattle.rv32_isa.specs.State.{State, first_state}
use Rattle.rv32_isa.specs.Machine.{Lives, Runs, machine, start, standing, all_shown, arrival, shown_by}
use Rattle.rv32_runner.specs.declared.runner.RunEnd.{RunEnd}
use Rattle.rv32_runner.specs.declared.runner.RunEnd.TheVariants as end
use Rattle.rv32_runner.specs.Streams.{Streams, Tally, MayGive, Got, Lost, bytes_on}
use Rattle.rv32_runner.specs.Runs.{Ran, IsWrite, on}
use Rattle.rv32_runner.specs.Told.{IsOfMachine, Saw}
use Rattle.arc_top.specs.Runs.{answer_of, Does}
use Rattle.arc_top.proofs.Further.{one_more, bytes_append, bytes_out, bytes_err, none_out, none_err}

-- ---- sinks

got_none : (a b : Tally) (xs ys : List ℕ) → ys ≡ [] → Got a b xs → Got a b (xs ++ ys)
got_none a b xs ys e got = subst (Got a b) (sym (append-nil xs) ∙ ap (λ l. xs ++ l) (sym e)) got

-- a sink that failed after it got some bytes
got_lost : (a b c : Tally) (xs ys : List ℕ) → Got a b xs → Lost b c ys → Lost a c (xs ++ ys)
got_lost a b c xs ys got lost =
    let k = lost.front.0 in
    record {
      front = (
        length xs + k,
        subst (Grown a.written c.written) (sym (take-append-add xs ys k))
            (grown_more a.written b.written c.written xs (take k ys) got.got lost.front.1),
      );
      rose = subst (λ n. Rose n c.faults) got.faults lost.rose;
    }

-- ---- prefixes

then_prefix : (xs ys zs more : List Event) → IsPrefix (xs ++ (ys ++ more)) zs → IsPrefix (xs ++ ys) zs
then_prefix xs ys zs more p =
    (more ++ p.0, sym (append_assoc (xs ++ ys) more p.0) ∙ ap (λ l. l ++ p.0) (append_assoc xs ys more) ∙ p.1)

-- some bytes may come next
pub some_rest : (left : Option (List ℕ)) (ended : Bool) → (rest : List ℕ) × MayGive left ended rest
some_rest None ended = ([], λ h. refl)
some_rest (Some left) ended = (left, refl)

-- ---- meanings

abbrev pub Shows : Type 0
Shows = (live : Lives) (image : Image) (input : List ℕ) (n : ℕ) → (machine live image input n).events ≡ shown_by (standing image.hooks n (start image input) [])

abbrev pub Sees : Type 0
Sees =
    (live : Lives) (image : Image) (n : ℕ) (old : Streams) (answer : RunEnd) (t : State) (new : Streams) → Ran n old (first_state image) answer t new
    → IsOfMachine answer → (rest : List ℕ) → MayGive new.input.left new.input.ended rest → Saw live image n old answer t new rest

module _ (live : Lives) (image : Image) (meaning : (input : List ℕ) → Behaviour Event)
    (agrees : (input : List ℕ) → Agrees (machine live image input) (meaning input)) (steps : ℕ) (old new : Streams) where
  -- the events of a run that goes on are a front of the meaning's
  front_of : Shows → (n : ℕ) (input : List ℕ) (shown : List Event) (at : _) → standing image.hooks n (start image input) [] ≡ Runs shown at
      → (m : ℕ) × IsPrefix shown (meaning input m).events
  front_of shows n input shown at stands =
      let covered = (agrees input).low_in_high n in
      (covered.0, subst (λ events. IsPrefix events (meaning input covered.0).events) (shows live image input n ∙ ap shown_by stands) covered.1.prefix)

  pub exited : Sees → (status : ℕ) (t : State) → Ran steps old (first_state image) (end.Exited status) t new
      → Does meaning (answer_of steps (end.Exited status)) old new
  exited sees status t ran rest may =
      let saw = sees live image steps old (end.Exited status) t new ran tt rest may in
      let covered = (agrees (saw.given ++ rest)).low_in_high steps in
      let ended = covered.1.end status (live t) saw.phase in
      record {
        given = saw.given;
        gave = saw.gave;
        input = saw.input;
        shown = (machine live image (saw.given ++ rest) steps).events;
        units = covered.0;
        seen = (ended.0, (ended.1, ended.2));
        out = saw.out;
        err = saw.err;
      }

  pub spent : Sees → (t : State) → Ran steps old (first_state image) end.Spent t new → Does meaning (answer_of steps end.Spent) old new
  spent sees t ran rest may =
      let saw = sees live image steps old end.Spent t new ran tt rest may in
      let covered = (agrees (saw.given ++ rest)).low_in_high steps in
      record {
        given = saw.given;
        gave = saw.gave;
        input = saw.input;
        shown = (machine live image (saw.given ++ rest) steps).events;
        units = covered.0;
        seen = covered.1.prefix;
        out = saw.out;
        err = saw.err;
      }

  pub no_fault : Sees → (kind : _) (pc word : ℕ) (t : State) → Ran steps old (first_state image) (end.Fault kind pc word) t new → ⊥
  no_fault sees kind pc word t ran =
      let some = some_rest new.input.left new.input.ended in
      let saw = sees live image steps old (end.Fault kind pc word) t new ran tt some.0 some.1 in
      (agrees (saw.given ++ some.0)).no_fault steps saw.phase

  pub read_failed : Shows → (t : State) → Ran steps old (first_state image) end.ReadFault t new → Does meaning (answer_of steps end.ReadFault) old new
  read_failed shows t ran rest may =
      let fails = ran.ends.1 in
      let carried = ran.carried in
      let together = append_assoc carried.given fails.given rest in
      let leads = carried.leads image.hooks (fails.given ++ rest) (fails.gave.before rest may) in
      let at = on ran.at (fails.given ++ rest) in
      let stands = subst (λ input. standing image.hooks ran.done (on (first_state image) input) [] ≡ Runs leads.shown at) (sym together) leads.stands in
      let front = front_of shows ran.done ((carried.given ++ fails.given) ++ rest) leads.shown at stands in
      record {
        given = carried.given ++ fails.given;
        gave = fails.gave.gave ∙ ap (λ l. l ++ fails.given) carried.gave.gave ∙ append_assoc old.input.gave carried.given fails.given;
        input = subst (MayGive old.input.left old.input.ended) (sym together) (carried.gave.before (fails.given ++ rest) (fails.gave.before rest may));
        shown = leads.shown;
        units = front.0;
        seen = front.1;
        out = subst (λ now. Got old.out now (bytes_on Out leads.shown)) (sym fails.out) leads.out;
        err = subst (λ now. Got old.err now (bytes_on Err leads.shown)) (sym fails.err) leads.err;
      }

  -- the events up to a write are a front of the meaning's
  front_with : Shows → (n : ℕ) (s : State) (input rest : List ℕ) (shown : List Event) (stream : Stream) (bytes : List ℕ)
      → standing image.hooks n (start image input) [] ≡ Runs shown (on s rest)
      → IsWrite s stream bytes → (m : ℕ) × IsPrefix (shown ++ writes stream bytes) (meaning input m).events
  front_with shows n s input rest shown stream bytes stands write =
      let next = on write.next rest in
      let more = one_more image.hooks n (start image input) (on s rest) next [] shown (writes stream bytes) stands (write.comes rest) in
      let front = front_of shows (suc n) input (shown ++ all_shown image.hooks (writes stream bytes) next) next more in
      (front.0, then_prefix shown (writes stream bytes) (meaning input front.0).events (arrival image.hooks next.state.pc) front.1)

  pub out_failed : Shows → (t : State) → Ran steps old (first_state image) (end.WriteFault Out) t new
      → Does meaning (answer_of steps (end.WriteFault Out)) old new
  out_failed shows t ran rest may =
      let halts = ran.ends.1 in
      let bytes = halts.0 in
      let write = halts.1.0 in
      let lost = halts.1.1.0 in
      let input = halts.1.1.1.1.0 in
      let err = halts.1.1.1.1.1 in
      let carried = ran.carried in
      let leads = carried.leads image.hooks rest (subst (λ feed. MayGive feed.left feed.ended rest) input may) in
      let front = front_with shows ran.done ran.at (carried.given ++ rest) rest leads.shown Out bytes leads.stands write in
      let due_out = bytes_append Out leads.shown (writes Out bytes) ∙ ap (λ l. bytes_on Out leads.shown ++ l) (bytes_out bytes) in
      let due_err = bytes_append Err leads.shown (writes Out bytes) in
      record {
        given = carried.given;
        gave = ap (λ feed. feed.gave) input ∙ carried.gave.gave;
        input = carried.gave.before rest (subst (λ feed. MayGive feed.left feed.ended rest) input may);
        shown = leads.shown ++ writes Out bytes;
        units = front.0;
        seen = front.1;
        out = subst (Lost old.out new.out) (sym due_out) (got_lost old.out ran.mid.out new.out (bytes_on Out leads.shown) bytes leads.out lost);
        err = subst (λ now. Got old.err now (bytes_on Err (leads.shown ++ writes Out bytes))) (sym err)
            (subst (Got old.err ran.mid.err) (sym due_err) (got_none old.err ran.mid.err (bytes_on Err leads.shown) _ (none_err bytes) leads.err));
      }

  pub err_failed : Shows → (t : State) → Ran steps old (first_state image) (end.WriteFault Err) t new
      → Does meaning (answer_of steps (end.WriteFault Err)) old new
  err_failed shows t ran rest may =
      let halts = ran.ends.1 in
      let bytes = halts.0 in
      let write = halts.1.0 in
      let lost = halts.1.1.0 in
      let input = halts.1.1.1.1.0 in
      let out = halts.1.1.1.1.1 in
      let carried = ran.carried in
      let leads = carried.leads image.hooks rest (subst (λ feed. MayGive feed.left feed.ended rest) input may) in
      let front = front_with shows ran.done ran.at (carried.given ++ rest) rest leads.shown Err bytes leads.stands write in
      let due_err = bytes_append Err leads.shown (writes Err bytes) ∙ ap (λ l. bytes_on Err leads.shown ++ l) (bytes_err bytes) in
      let due_out = bytes_append Out leads.shown (writes Err bytes) in
      record {
        given = carried.given;
        gave = ap (λ feed. feed.gave) input ∙ carried.gave.gave;
        input = carried.gave.before rest (subst (λ feed. MayGive feed.left feed.ended rest) input may);
        shown = leads.shown ++ writes Err bytes;
        units = front.0;
        seen = front.1;
        out = subst (λ now. Got old.out now (bytes_on Out (leads.shown ++ writes Err bytes))) (sym out)
            (subst (Got old.out ran.mid.out) (sym due_out) (got_none old.out ran.mid.out (bytes_on Out leads.shown) _ (none_out bytes) leads.out));
        err = subst (Lost old.err new.err) (sym due_err) (got_lost old.err ran.mid.err new.err (bytes_on Err leads.shown) bytes leads.err lost);
      }
