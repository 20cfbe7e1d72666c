-- Two characters at addresses trade places, whatever the addresses lead to.
use Rattle.std.proofs.Common.{◌≡◌, inl, ℕ, ◌≤◌, List, [], ◌∷◌, pos, true, refl, sym, subst, arith}
use Rattle.std.proofs.lemmas.Bool.{and_from}
use Rattle.rv32_isa.specs.declared.micro_op.Size.TheVariants.{Byte}
use Rattle.nim_meaning.specs.Values.{Value, Number, Location}
use Rattle.nim_meaning.specs.Deeds.{Answers}
use Rattle.nim_meaning.specs.State.{World, is_full_at, is_seen, is_there, is_whole, load, store}
use Rattle.flat_code.specs.declared.block.BlockLine.{BlockLine}
use Rattle.flat_code.specs.Scene.{Located, Passes, Temps}
use Rattle.word_code.specs.declared.word.WordInstr.{WordInstr}
use Rattle.word_code.specs.Memory.{Memory, with_number}
use Rattle.word_code.proofs.ForCallers.{Runs, at}
use Rattle.word_lowering.specs.declared.homes.Home.{Home}
use Rattle.word_lowering.specs.LineCode.{letter_swap}
use Rattle.word_lowering.proofs.Gets.{SameTemps, same_temps}
use Rattle.word_lowering.proofs.LetterReads.{LetterAt, letter_led}
use Rattle.word_lowering.proofs.LetterRuns.{letters_swapped}
use Rattle.word_lowering.proofs.LetterStores.{letter_may, letter_then, one_put}
use Rattle.word_lowering.proofs.LetterWrites.{LetterStored, letter_reached}
use Rattle.word_lowering.proofs.Lines.{Basis, IsGood, Settles, all_procs, all_sites, changed_later, goes_on, stands_next, starts}
use Rattle.word_lowering.proofs.Located.{full_there}
use Rattle.word_lowering.proofs.Moves.{IsHigh, NumberPut, all_same}
use Rattle.word_lowering.proofs.Related.{Both, body_of, within}
use Rattle.word_lowering.proofs.Scenes.{IsOwned, Points, ReachesHere}
use Rattle.word_lowering.proofs.Settling.{code_here, code_next}
use Rattle.word_lowering.proofs.ShapeFacts.{letter}

module _ (x : Basis) (g : Both) (line : BlockLine) (rest : List BlockLine) (y : IsGood x (starts g line rest)) where
  -- a location whose character trades places
  pub record Trades (l : Location) (home : Home) : Type 0 where
    pub high : IsHigh home
    pub address : ℕ
    pub points : Points g.call.site.base g.call.vars home address
    pub owned : IsOwned l.base
    pub leads : ReachesHere x.table x.blocks (all_sites x g line rest y) g.ground g.world l address letter
    pub full : is_full_at g.world l ≡ true

  module _ (l : Location) (home : Home) (e : Trades l home) where
    there : (is_there g.world l ≡ true) × (is_whole g.world (load g.world l) ≡ true)
    there = let p = full_there x (starts g line rest) y l e.full in (p.0, p.1)

    seen : is_seen g.world l ≡ true
    seen = and_from (is_there g.world l) (is_whole g.world (load g.world l)) there.0 there.1

    letter_is_at : LetterAt x (starts g line rest) y (load g.world l) e.address
    letter_is_at = letter_led x (starts g line rest) y g.call (inl refl) (inl refl) (Located l) e.address letter refl e.full e.leads

  module _ (l m : Location) (left right : Home) (e : Trades l left) (f : Trades m right) (temps : Temps) (same_at : SameTemps x g line rest y temps) where
    abbrev v : Value
    v = load g.world l

    abbrev w : Value
    w = load g.world m

    at_left : LetterAt x (starts g line rest) y v e.address
    at_left = letter_is_at l left e

    at_right : LetterAt x (starts g line rest) y w f.address
    at_right = letter_is_at m right f

    abbrev next : List WordInstr
    next = code_next x g line rest y

    abbrev middle : Memory
    middle = with_number g.memory f.address Byte at_left.code

    abbrev memory : Memory
    memory = with_number middle e.address Byte at_right.code

    abbrev world : World
    world = store g.world m (Number (pos at_left.code))

    put : NumberPut x.law x.live (all_procs x) (within x.table x.blocks g) refl g.words g.memory (letter_swap left right next) g.call.vars memory 6 next
    put =
        let low_left = at_left.small in
        let low_right = at_right.small in
        letters_swapped x.law x.live (all_procs x) (within x.table x.blocks g) refl g.words g.memory y.memory.sized next g.call.vars left e.address e.points
        (letter_may x g line rest y l e.address e.owned e.leads (seen l left e)) at_left.near right f.high f.address f.points
        (letter_may x g line rest y m f.address f.owned f.leads (seen m right f)) at_right.near at_left.code at_right.code
        (omega (arith, low_left)) (omega (arith, low_right)) at_left.reads at_right.reads

    first_put : LetterStored x g line rest y m f.address f.owned f.leads (seen m right f) middle at_left.code
        (one_put x g line rest y m f.address f.owned f.leads (seen m right f) at_left.code at_left.small)
    first_put = letter_then x g line rest y m f.address f.owned f.leads (seen m right f) at_left.code at_left.small

    abbrev between : Both
    between = changed_later g (line ∷ rest) temps put.vars middle g.words g.awaits world first_put.ground g.input

    good_between : IsGood x (starts between line rest)
    good_between = first_put.good (line ∷ rest) y.stands temps same_at put.vars g.words g.awaits put.same

    leads_then : ReachesHere x.table x.blocks (all_sites x between line rest good_between) first_put.ground world l e.address letter
    leads_then = letter_reached x g line rest y m f.address f.owned f.leads (seen m right f) middle at_left.code
        (one_put x g line rest y m f.address f.owned f.leads (seen m right f) at_left.code at_left.small) first_put l e.address letter e.owned e.leads
        (there l left e).1

    module _ (full_then : is_full_at world l ≡ true) where
      seen_then : is_seen world l ≡ true
      seen_then =
          let p = full_there x (starts between line rest) good_between l full_then in
          and_from (is_there world l) (is_whole world (load world l)) p.0 p.1

      second_put : LetterStored x between line rest good_between l e.address e.owned leads_then seen_then memory at_right.code
          (one_put x between line rest good_between l e.address e.owned leads_then seen_then at_right.code at_right.small)
      second_put = letter_then x between line rest good_between l e.address e.owned leads_then seen_then at_right.code at_right.small

      trade_settles : code_here x g line rest y ≡ letter_swap left right next → (work : ℕ) → 1 ≤ work
          → Settles x (starts g line rest) rest (Passes (Answers [] work temps (store world l (Number (pos at_right.code)))))
      trade_settles code work some =
          let few = put.few in
          goes_on x (starts g line rest)
          (changed_later between rest temps put.vars memory g.words g.awaits (store world l (Number (pos at_right.code))) second_put.ground g.input) rest
          (second_put.good rest (stands_next x.table x.blocks (body_of g) line rest y.stands) temps (same_temps x between line rest good_between) put.vars
          g.words g.awaits (all_same put.vars)) put.steps work temps (store world l (Number (pos at_right.code)))
          (subst (λ c. Runs x.live (all_procs x) put.steps (at (within x.table x.blocks g) g.memory c g.call.vars g.words)
          (at (within x.table x.blocks g) memory next put.vars g.words)) (sym code) put.runs)
          put.some (omega (arith, few, some)) refl

    pub letters_trade : is_full_at (store g.world m (load g.world l)) l ≡ true → code_here x g line rest y ≡ letter_swap left right (code_next x g line rest y)
        → (work : ℕ) → 1 ≤ work
        → Settles x (starts g line rest) rest (Passes (Answers [] work temps (store (store g.world m (load g.world l)) l (load g.world m))))
    letters_trade full_then code work some =
        subst (λ u. Settles x (starts g line rest) rest (Passes (Answers [] work temps (store (store g.world m u) l (load g.world m))))) (sym at_left.is)
        (subst (λ u. Settles x (starts g line rest) rest (Passes (Answers [] work temps (store (store g.world m (Number (pos at_left.code))) l u))))
        (sym at_right.is)
        (trade_settles (subst (λ u. is_full_at (store g.world m u) l ≡ true) at_left.is full_then) code work some))
