-- What is said of what is seen of word code, said of what its program shows.
use Rattle.std.proofs.Common.{◌≡◌, ℕ, ◌+◌, List, [], ◌++◌, Option, Some, None, refl, sym, subst, ◌∙◌, append-nil, add_comm}
use Rattle.std.specs.Prelude.{Bool}
use Rattle.arc_base.specs.Event.{Event}
use Rattle.arc_base.specs.declared.outside.Stream.TheVariants.{Out as Output, Err as Errors}
use Rattle.arc_base.specs.Behaviour.{Behaviour, Ended, Seen, Sound}
use Rattle.arc_base.specs.Outside.{Grown}
use Rattle.rv32_runner.specs.Streams.{Feed, MayGive}
use Rattle.word_code.specs.declared.word.WordCode.{WordCode}
use Rattle.word_runner.specs.declared.mean.MeanEnd.{MeanEnd}
use Rattle.word_runner.specs.declared.mean.MeanEnd.TheVariants as M
use Rattle.word_runner.specs.Sinks.{bytes_on, told, BothGot, BothGotFronts, Told, Got, GotFront}
use Rattle.word_runner.specs.Mean.{Came, Comes, no_fresh, shown_by}
use Rattle.word_runner.specs.Mean as words
use Rattle.core_compiler.specs.Compile.{live_objects}
use Rattle.core_compiler.specs.Mean.{CameTo, IsEnd, Means}
use Rattle.core_compiler.specs.Stages.{ShowsSame}
use Rattle.core_compiler.proofs.AnyLive.{ended_none}

module _ (low high : Seen Event) (same : ShowsSame low high) (out err : Told) where
  got : BothGot low out err → BothGot high out err
  got g = subst (λ es. Got out (bytes_on Output es) × Got err (bytes_on Errors es)) same.events g

  fronts : BothGotFronts low out err → BothGotFronts high out err
  fronts g = subst (λ es. GotFront out (bytes_on Output es) × GotFront err (bytes_on Errors es)) same.events g

-- of word code that shows the same
means_same : (code : WordCode) (heap : ℕ) (input : List ℕ) (units n : ℕ) (high : Seen Event) → ShowsSame (shown_by live_objects code heap units input n) high
    → (out err : Told) (end : MeanEnd) → words.Means (shown_by live_objects code heap units input n) end out err → Means high end out err
means_same code heap input units n high same out err (M.Ended status) m =
    let none = ended_none code no_fresh heap 0 input units n status m.0.0 m.0.1 in
    (subst (λ l. high.phase ≡ Ended status l) none (sym same.phase ∙ m.0.1), got _ high same out err m.1)
means_same code heap input units n high same out err M.Going m = (sym same.phase ∙ m.0, got _ high same out err m.1)
means_same code heap input units n high same out err M.Wrong m = m
means_same code heap input units n high same out err M.Faulted m = (sym same.phase ∙ m.0, got _ high same out err m.1)
means_same code heap input units n high same out err M.ReadFault m = fronts _ high same out err m
means_same code heap input units n high same out err (M.WriteFault Output) m = (m.0, fronts _ high same out err m.1)
means_same code heap input units n high same out err (M.WriteFault Errors) m = (m.0, fronts _ high same out err m.1)
means_same code heap input units n high same out err M.Memory m = fronts _ high same out err m

-- with a number of lines after which it shows the same
comes_means : (code : WordCode) (heap : ℕ) (input : List ℕ) (units : ℕ) (high : Seen Event) (end : MeanEnd) (out err : Told)
    → (lines : ℕ) × ((more : ℕ) → ShowsSame (shown_by live_objects code heap units input (lines + more)) high)
    → Comes (shown_by live_objects code heap units input) end out err → Means high end out err
comes_means code heap input units high end out err same comes =
    let n = comes.0 in
    let k = same.0 in
    let here = subst (λ i. ShowsSame (shown_by live_objects code heap units input i) high) (add_comm k n) (same.1 n) in
    means_same code heap input units (n + k) high here out err end (comes.1 k)

pub came_to : (code : WordCode) (heap units : ℕ) (meant : (input : List ℕ) → Seen Event) (old new : Feed) (end : MeanEnd) (out err : Told)
    → ((input : List ℕ) → (lines : ℕ) × ((more : ℕ) → ShowsSame (shown_by live_objects code heap units input (lines + more)) (meant input)))
    → Came (shown_by live_objects code heap units) old end new out err → CameTo meant old end new out err
came_to code heap units meant old new end out err same came = record {
  given = came.given;
  gave = came.gave;
  failed = came.failed;
  means = λ rest may. let input = came.given ++ rest in comes_means code heap input units (meant input) end out err (same input) (came.comes rest may);
}

-- ---- where no memory was found before the first line

grown_none : (a : Option (List ℕ)) → Grown a a []
grown_none None = tt
grown_none (Some x) = sym (append-nil x)

pub nothing_came : (meant : (input : List ℕ) → Seen Event) (feed : Feed) (a b : Option (List ℕ)) (k n : ℕ)
    → CameTo meant feed M.Memory feed (told a a k k) (told b b n n)
nothing_came meant feed a b k n = record {
  given = [];
  gave = record { gave = sym (append-nil feed.gave); before = λ rest may. may };
  failed = refl;
  means = λ rest may. (record { count = 0; front = grown_none a }, record { count = 0; front = grown_none b });
}

-- ---- what isn't at a fault

-- a source may give something, if nothing more
some_rest : (left : Option (List ℕ)) (ended : Bool) → (rest : List ℕ) × MayGive left ended rest
some_rest None ended = ([], λ e. refl)
some_rest (Some left) ended = (left, refl)

not_at_fault : (meant : Behaviour Event) → Sound meant → (units : ℕ) (out err : Told) (end : MeanEnd) → Means (meant units) end out err → IsEnd end
not_at_fault meant sound units out err (M.Ended status) m = tt
not_at_fault meant sound units out err M.Going m = tt
not_at_fault meant sound units out err M.Wrong m = m
not_at_fault meant sound units out err M.Faulted m = absurd (sound.no_fault units m.0)
not_at_fault meant sound units out err M.ReadFault m = tt
not_at_fault meant sound units out err (M.WriteFault stream) m = tt
not_at_fault meant sound units out err M.Memory m = tt

pub ends : (meant : (input : List ℕ) → Behaviour Event) → ((input : List ℕ) → Sound (meant input)) → (units : ℕ) (old new : Feed) (end : MeanEnd)
    (out err : Told) → CameTo (λ input. meant input units) old end new out err → IsEnd end
ends meant sound units old new end out err came =
    let some = some_rest new.left new.ended in
    let input = came.given ++ some.0 in
    not_at_fault (meant input) (sound input) units out err end (came.means some.0 some.1)
