-- Where a handle stands at an address, the code of an item gives the address of that element, or the program ends where there is none.
use Rattle.std.proofs.Common.{◌≡◌, ℕ, ◌+◌, ◌*◌, ◌^◌, ◌<◌, ◌≤◌, List, length, Ok, Some, true, refl, sym, subst, arith}
use Rattle.arc_base.specs.Event.{writes}
use Rattle.arc_base.specs.declared.outside.Stream.TheVariants.{Err}
use Rattle.nim_program.specs.Traps.{IndexOutOfBounds, trap_text}
use Rattle.nim_meaning.specs.Acts.{line_of}
use Rattle.nim_meaning.specs.Deeds.{Finishes}
use Rattle.flat_code.specs.declared.block.BlockLine.{BlockLine}
use Rattle.flat_code.specs.Scene.{Passes}
use Rattle.rv32_isa.specs.declared.micro_op.Size.TheVariants.{Word}
use Rattle.word_code.specs.declared.word.WordInstr.{WordInstr}
use Rattle.word_code.specs.Memory.{number_at}
use Rattle.word_lowering.specs.declared.homes.TheConstants.{OWN_FROM}
use Rattle.word_lowering.specs.declared.homes.Home.{Home as Place}
use Rattle.word_lowering.specs.Lowered.{any_branches}
use Rattle.word_lowering.specs.Operations.{trap_label}
use Rattle.word_lowering.specs.OwnedCode.{owned_item_code}
use Rattle.word_lowering.proofs.HandleReads.{item_got, item_leaps}
use Rattle.word_lowering.proofs.Lines.{Basis, IsGood, Settles, all_procs, starts}
use Rattle.word_lowering.proofs.OperationRuns.{Given, Led}
use Rattle.word_lowering.proofs.PartLines.{led_home, led_variable}
use Rattle.word_lowering.proofs.Related.{Both, within}
use Rattle.word_lowering.proofs.Scenes.{IsThere, of_location}
use Rattle.word_lowering.proofs.Settling.{TrapsStop, code_here, code_next, code_of_line, trap_settles}
use Rattle.word_lowering.proofs.TextRowRuns.{IsAt}

module _ (x : Basis) (g : Both) (line : BlockLine) (rest : List BlockLine) (y : IsGood x (starts g line rest)) (a : ℕ) (near : a + 4 < 2 ^ 32) (n place : ℕ)
    (long : number_at g.memory a Word ≡ Ok n) (few : n < 2 ^ 32) (there : number_at g.memory (a + 4) Word ≡ Ok place) (place_near : place < 2 ^ 32)
    (home : Place) (at_home : IsAt g.call.site.base g.call.vars home a) (size : ℕ) (size_small : size < 2 ^ 32) (to index : ℕ)
    (index_high : OWN_FROM ≤ index) (i : ℕ) (index_is : g.call.vars index ≡ Some i)
    (code : code_here x g line rest y ≡ owned_item_code (led_variable x g line rest y to) home index size (code_next x g line rest y)) where
  -- past its end the program ends
  pub item_past : n ≤ i → TrapsStop x
      → ((lines : List WordInstr) → any_branches (trap_label IndexOutOfBounds) (code_of_line x g line rest lines) ≡ true)
      → Settles x (starts g line rest) rest
      (Passes (Finishes (writes Err (line_of (trap_text IndexOutOfBounds))) (1 + length (line_of (trap_text IndexOutOfBounds))) 1 g.world))
  item_past more traps branches =
      trap_settles x g line rest y traps IndexOutOfBounds 1 (omega arith) branches
      (λ behind stands.
      let r = item_leaps x.law x.live (all_procs x) (within x.table x.blocks g) refl g.memory (code_next x g line rest y) g.call.vars g.words home a at_home
      (led_variable x g line rest y to) index size i n place index_high index_is near size_small long few there place_near more behind stands in
      subst (λ lines. Led x.live (all_procs x) (within x.table x.blocks g) g.memory g.words lines g.call.vars behind) (sym code)
      (record { steps = 3; some = omega arith; few = omega arith; leads = record { vars = r.vars; same = r.same; runs = r.runs } }))

  -- the address of one that is there
  pub item_given : IsThere g.call.site (of_location to) → i < n → place + i * size < 2 ^ 32
      → Given x.live (all_procs x) (within x.table x.blocks g) g.memory g.words (code_here x g line rest y) g.call.vars (led_variable x g line rest y to)
      (place + i * size) (code_next x g line rest y)
  item_given there_to less end =
      let b = led_home x g line rest y to there_to in
      let r = item_got x.law x.live (all_procs x) (within x.table x.blocks g) refl g.memory (code_next x g line rest y) g.call.vars g.words home a at_home
      (led_variable x g line rest y to) index size i n place index_high index_is near size_small long few there place_near b.high_is less end in
      subst (λ lines. Given x.live (all_procs x) (within x.table x.blocks g) g.memory g.words lines g.call.vars (led_variable x g line rest y to)
      (place + i * size) (code_next x g line rest y)) (sym code) (record {
        steps = r.count;
        some = r.some;
        few = (let f = r.few in omega (arith, f));
        gives = record { vars = r.vars; given = r.given; but = r.but; runs = r.runs };
      })
