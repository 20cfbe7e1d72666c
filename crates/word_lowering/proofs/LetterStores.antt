-- Lines that write a character at an address: it is there then, whatever the address leads to.
use Rattle.std.proofs.Common.{◌≡◌, ℕ, ◌%◌, ◌^◌, ◌<◌, ◌≤◌, List, [], pos, Bool, true, refl, sym, ap, subst, ◌∙◌, arith}
use Rattle.rv32_isa.specs.declared.micro_op.Size.TheVariants.{Byte}
use Rattle.nim_meaning.specs.Values.{Value, Number, Parts, Handle, Fixed, Ref, Resource, Gone, Vacant, Location}
use Rattle.nim_meaning.specs.Deeds.{Answers}
use Rattle.nim_meaning.specs.State.{is_seen, store}
use Rattle.flat_code.specs.declared.block.BlockLine.{BlockLine}
use Rattle.flat_code.specs.Scene.{Passes, Temps}
use Rattle.flat_code.specs.Shapes.{has_shape}
use Rattle.word_code.specs.declared.word.WordInstr.{WordInstr}
use Rattle.word_code.specs.Memory.{may_put, with_number}
use Rattle.word_code.proofs.ForCallers.{Runs, at}
use Rattle.word_lowering.specs.declared.homes.Home.{Home}
use Rattle.word_lowering.specs.declared.homes.Housed.{Housed}
use Rattle.word_lowering.specs.declared.spots.Spot.TheVariants.{Letter}
use Rattle.word_lowering.specs.Spots.{moved, moves, spot_of}
use Rattle.word_lowering.proofs.ByteWords.{BytePut, byte_put}
use Rattle.word_lowering.proofs.Gets.{SameTemps}
use Rattle.word_lowering.proofs.LetterReads.{LetterOf, letter_of}
use Rattle.word_lowering.proofs.LetterWrites.{LetterStored, letter_open, letter_stored}
use Rattle.word_lowering.proofs.Lines.{Basis, IsGood, Settles, all_procs, all_sites, changed_later, goes_on, stands_next, starts}
use Rattle.word_lowering.proofs.Moves.{From, NumberPut, number_to_letter}
use Rattle.word_lowering.proofs.ReadFacts.{Read, here_near}
use Rattle.word_lowering.proofs.Related.{Both, body_of, within}
use Rattle.word_lowering.proofs.Scenes.{IsOwned, Points, ReachesHere}
use Rattle.word_lowering.proofs.Settling.{code_here, code_next}
use Rattle.word_lowering.proofs.ShapeFacts.{letter, never}
use Rattle.word_lowering.proofs.Sources.{source_from, source_may}

module _ (x : Basis) (g : Both) (line : BlockLine) (rest : List BlockLine) (y : IsGood x (starts g line rest)) (l : Location) (a : ℕ)
    (owned : IsOwned l.base) (leads : ReachesHere x.table x.blocks (all_sites x g line rest y) g.ground g.world l a letter)
    (seen : is_seen g.world l ≡ true) where
  pub letter_may : may_put g.memory a Byte ≡ true
  letter_may = letter_open x g line rest y l a owned leads seen

  pub letter_near : a < 2 ^ 32
  letter_near =
      let near = here_near x (all_sites x g line rest y) y.linked g.ground g.world l a letter leads in omega (arith, near)

  -- the memory behind the store
  pub one_put : (c : ℕ) → c < 256 → BytePut g.memory (with_number g.memory a Byte c) a c
  one_put c small =
      let low : c % 256 ≡ c = omega (arith, small) in
      subst (BytePut g.memory (with_number g.memory a Byte c) a) low (byte_put x.law g.memory a c y.memory.sized letter_may)

  abbrev pub Put : (lines : List WordInstr) → (code most : ℕ) → Type 0
  Put lines code most =
      NumberPut x.law x.live (all_procs x) (within x.table x.blocks g) refl g.words g.memory lines g.call.vars (with_number g.memory a Byte code) most
      (code_next x g line rest y)

  -- what is true behind it
  pub letter_then : (c : ℕ) (small : c < 256) → LetterStored x g line rest y l a owned leads seen (with_number g.memory a Byte c) c (one_put c small)
  letter_then c small = letter_stored x g line rest y l a owned leads seen (with_number g.memory a Byte c) c (one_put c small)

  pub letter_settles : (h : Housed) (home : Home) → spot_of h ≡ Letter home → Points g.call.site.base g.call.vars home a
      → (v : Value) → has_shape v letter ≡ true → (from : Housed) (all : Bool) → Read x g line rest y all from v
      → code_here x g line rest y ≡ moves h from (code_next x g line rest y) → (temps : Temps) → SameTemps x g line rest y temps → (work : ℕ) → 1 ≤ work
      → Settles x (starts g line rest) rest (Passes (Answers [] work temps (store g.world l v)))
  letter_settles h home spot points (Number z) shaped from all read code temps same work some =
      let q : LetterOf z = letter_of z shaped in
      let small = q.small in
      let word_is = q.word_is in
      let next : List WordInstr = code_next x g line rest y in
      let from_spot : From g.memory g.call.site.base g.call.vars (spot_of from) (Number z)
      = source_from x (all_sites x g line rest y) y.linked (within x.table x.blocks g) refl g.words g.memory y.memory next g.call.vars h from (Number z)
      read.word read.size read.small read.source (spot_of from) refl in
      let put : Put (moved from.is_word from.bytes (Letter home) (spot_of from) next) q.code 4
      = subst (λ c. Put (moved from.is_word from.bytes (Letter home) (spot_of from) next) c 4) word_is
      (number_to_letter x.law x.live (all_procs x) (within x.table x.blocks g) refl g.words g.memory next g.call.vars home a points letter_near letter_may
      z (omega (arith, small, word_is)) from.is_word from.bytes (spot_of from)
      (source_may x (all_sites x g line rest y) y.linked g.memory g.call.site.base g.call.vars read.source) from_spot) in
      let s = letter_then q.code small in
      let few = put.few in
      subst (λ u. Settles x (starts g line rest) rest (Passes (Answers [] work temps (store g.world l (Number u))))) (sym q.is)
      (goes_on x (starts g line rest)
      (changed_later g rest temps put.vars (with_number g.memory a Byte q.code) g.words g.awaits (store g.world l (Number (pos q.code))) s.ground g.input)
      rest (s.good rest (stands_next x.table x.blocks (body_of g) line rest y.stands) temps same put.vars g.words g.awaits put.same)
      put.steps work temps (store g.world l (Number (pos q.code)))
      (subst (λ k. Runs x.live (all_procs x) put.steps (at (within x.table x.blocks g) g.memory k g.call.vars g.words)
      (at (within x.table x.blocks g) (with_number g.memory a Byte q.code) next put.vars g.words))
      (sym (code ∙ ap (λ p. moved from.is_word from.bytes p (spot_of from) next) spot)) put.runs)
      put.some (omega (arith, few, some)) refl)
  letter_settles h home spot points (Parts vs) shaped from all read code temps same work some = never shaped
  letter_settles h home spot points (Handle n k) shaped from all read code temps same work some = never shaped
  letter_settles h home spot points (Fixed t) shaped from all read code temps same work some = never shaped
  letter_settles h home spot points (Ref o) shaped from all read code temps same work some = never shaped
  letter_settles h home spot points (Resource vs i) shaped from all read code temps same work some = never shaped
  letter_settles h home spot points (Gone u final) shaped from all read code temps same work some = never shaped
  letter_settles h home spot points Vacant shaped from all read code temps same work some = never shaped
