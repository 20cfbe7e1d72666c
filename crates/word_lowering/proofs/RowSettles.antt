-- A row as a line: where its deed answers, block code and word code go on together, and where that ends the program both do.
use Rattle.std.proofs.Common.{◌≡◌, inl, inr, ℕ, ◌+◌, ◌*◌, List, [], ◌∷◌, length, Bool, true, false, refl, ap, subst, ◌∙◌, arith}
use Rattle.arc_base.specs.Event.{Event}
use Rattle.nim_meaning.specs.State.{World, live}
use Rattle.nim_meaning.specs.Values.{Value}
use Rattle.nim_meaning.specs.Heap.{has_room}
use Rattle.nim_meaning.specs.Deeds.{Deed, Gives, Ends, Errs, Works, Says, Looks, Changes, Takes, Done, Answers, Finishes, Fails, behind, changed, give, perform}
use Rattle.nim_meaning.specs.Deeds.{took, with_block, ◌>>=◌}
use Rattle.flat_code.specs.declared.block.BlockLine.{BlockLine}
use Rattle.flat_code.specs.Scene.{Passes, Temps}
use Rattle.word_code.specs.Memory.{Memory}
use Rattle.word_code.specs.Words.{Vars, no_words}
use Rattle.word_code.proofs.ForCallers.{AlwaysStops}
use Rattle.word_lowering.specs.declared.lowering.TheConstants.{WORD_PACE}
use Rattle.word_lowering.proofs.Lines.{Basis, IsGood, Settles, all_procs, changed_later, low_past, lower, starts}
use Rattle.word_lowering.proofs.Related.{Both, low, within}
use Rattle.word_lowering.proofs.ResizedWorlds.{answered}
use Rattle.word_lowering.proofs.RowRuns.{RowDoes}
use Rattle.word_lowering.proofs.Scenes.{Ground}
use Rattle.word_lowering.proofs.Settling.{code_next, stops_more}

-- ---- what comes of a deed, with its answer in other words

abbrev pub mapped : {A B : Type 0} → (A → B) → Done A → Done B
mapped f (Answers es n a w) = Answers es n (f a) w
mapped f (Finishes es n status w) = Finishes es n status w
mapped f (Fails es n w) = Fails es n w

mapped_behind : {A B : Type 0} (f : A → B) (es : List Event) (n : ℕ) (done : Done A) → behind es n (mapped f done) ≡ mapped f (behind es n done)
mapped_behind f es n (Answers fs m a w) = refl
mapped_behind f es n (Finishes fs m status w) = refl
mapped_behind f es n (Fails fs m w) = refl

mapped_took : {A B : Type 0} (f : A → B) (room : Bool) (done : Done A) (w : World) → took room (mapped f done) w ≡ mapped f (took room done w)
mapped_took f true done w = refl
mapped_took f false done w = refl

pub perform_mapped : {A B : Type 0} (f : A → B) (d : Deed A) (w : World) → perform (d >>= (λ a. give (f a))) w ≡ mapped f (perform d w)
perform_mapped f (Gives a) w = refl
perform_mapped f (Ends status) w = refl
perform_mapped f Errs w = refl
perform_mapped f (Works n rest) w = ap (behind [] n) (perform_mapped f rest w) ∙ mapped_behind f [] n (perform rest w)
perform_mapped f (Says es rest) w = ap (behind es 0) (perform_mapped f rest w) ∙ mapped_behind f es 0 (perform rest w)
perform_mapped f (Looks rest) w = perform_mapped f (rest w) w
perform_mapped f (Changes change rest) w = perform_mapped f rest (changed change w)
perform_mapped f (Takes class contents rest) w =
    ap (λ done. took (has_room w.heap class) done w) (perform_mapped f (rest (length w.heap.blocks)) (with_block class contents w))
    ∙ mapped_took f (has_room w.heap class) (perform (rest (length w.heap.blocks)) (with_block class contents w)) w

-- what follows where it answers is the same
pub mapped_answered : {A B : Type 0} (f : A → B) (done : Done A) → answered (mapped f done) ≡ answered done
mapped_answered f (Answers es n a w) = refl
mapped_answered f (Finishes es n status w) = refl
mapped_answered f (Fails es n w) = refl

-- one deed after another, whichever way they are put together
pub perform_on : {A B C : Type 0} (d : Deed A) (k : A → Deed B) (f : B → Deed C) (w : World)
    → perform ((d >>= k) >>= f) w ≡ perform (d >>= (λ a. k a >>= f)) w
perform_on (Gives a) k f w = refl
perform_on (Ends status) k f w = refl
perform_on Errs k f w = refl
perform_on (Works n rest) k f w = ap (behind [] n) (perform_on rest k f w)
perform_on (Says es rest) k f w = ap (behind es 0) (perform_on rest k f w)
perform_on (Looks rest) k f w = perform_on (rest w) k f w
perform_on (Changes change rest) k f w = perform_on rest k f (changed change w)
perform_on (Takes class contents rest) k f w =
    ap (λ done. took (has_room w.heap class) done w) (perform_on (rest (length w.heap.blocks)) k f (with_block class contents w))

-- a row whose value is nothing, or no one's but the temporary's
pub row_deed : {A B : Type 0} (d : Deed A) (v : A → Value) (f : Value → B) (w : World)
    → perform (((d >>= (λ a. give (v a))) >>= (λ u. give u)) >>= (λ u. give (f u))) w ≡ mapped (λ a. f (v a)) (perform d w)
row_deed d v f w =
    perform_on (d >>= (λ a. give (v a))) (λ u. give u) (λ u. give (f u)) w ∙ perform_on d (λ a. give (v a)) (λ u. give (f u)) w
    ∙ perform_mapped (λ a. f (v a)) d w

-- ---- a line that does a deed, which is a work of one besides

module _ (x : Basis) (g : Both) (line : BlockLine) (rest : List BlockLine) (y : IsGood x (starts g line rest)) where
  -- what its code does, in front of the lines behind it
  abbrev pub IsRow : {A : Type 0} → (awaits spare : ℕ) → (A → World → Memory → Vars → Type 0) → Done A → Type 0
  IsRow awaits spare Behind done =
      RowDoes x.live (all_procs x) (within x.table x.blocks g) (code_next x g line rest y) awaits spare Behind (low x.table x.blocks (starts g line rest)) done

  -- behind it all is good
  abbrev pub LeavesGood : {A : Type 0} → (awaits : ℕ) → (A → Temps) → (A → World → Memory → Vars → Type 0) → Done A → Type 0
  LeavesGood {A} awaits temps Behind done = (es : List Event) (n : ℕ) (a : A) (w : World) → done ≡ Answers es n a w → (m : Memory) (v : Vars)
      → Behind a w m v → (ground : Ground) × IsGood x (changed_later g rest (temps a) v m no_words awaits w ground w.input)

  pub row_settles : {A : Type 0} (awaits spare : ℕ) (temps : A → Temps) (Behind : A → World → Memory → Vars → Type 0)
      → (done : Done A) → LeavesGood awaits temps Behind done → IsRow awaits spare Behind done
      → Settles x (starts g line rest) rest (Passes (behind [] 1 (mapped temps done)))
  row_settles awaits spare temps Behind (Answers es n a w) good row = λ before.
      let few = row.few in
      let b = good es n a w refl row.memory row.vars row.behind in
      let then : Both = changed_later g rest (temps a) row.vars row.memory no_words awaits w b.0 w.input in
      let r = row.steps.by x.fresh before in (
        (r.0, low_past x (line ∷ rest) then),
        row.lines,
        record { work = r.1.work; within = (let h = r.1.within in omega (arith, h, few)); by = r.1.by },
        (inl (then, b.1, r.0), refl, refl, λ waits. refl),
        inr (omega arith),
      )
  row_settles awaits spare temps Behind (Finishes es n status w) good row =
      let few = row.few in
      stops_more (lower x) (low x.table x.blocks (starts g line rest)) row.lines (WORD_PACE * (1 + n)) status es (live w) (omega (arith, few))
      (subst (λ left. AlwaysStops (lower x) (low x.table x.blocks (starts g line rest)) es row.lines status left) (x.none row.memory) row.stops) x.fresh
  row_settles awaits spare temps Behind (Fails es n w) good row = λ before. tt
