-- The texts that values have from the data stand there while hooks run: they are as they were at the start.
use Rattle.std.proofs.Common.{◌≡◌, inl, inr, ℕ, ◌+◌, ◌≤◌, List, drop, length, refl, ◌∙◌, arith}
use Rattle.rv32_isa.specs.Image.{heap_at}
use Rattle.flat_code.specs.declared.block.BlockLine.{BlockLine}
use Rattle.word_code.specs.Memory.{Memory, as_state, bytes_at, own_data_at}
use Rattle.word_code.specs.RoutineTable.{Beside}
use Rattle.word_code.specs.declared.routine.TheConstants.{SCRATCH_BYTES}
use Rattle.word_code.specs.Routines.{HasData}
use Rattle.heap_memory.specs.declared.numbers.TheConstants.{HEAP_DATA}
use Rattle.heap_memory.specs.TextRoutines.{AreBytes}
use Rattle.word_lowering.proofs.BaseValues.{IsOwn}
use Rattle.word_lowering.proofs.BlockHomes.{Home, home_bytes}
use Rattle.word_lowering.proofs.FixedTexts.{elsewhere, fixed_text}
use Rattle.word_lowering.proofs.HookWorlds.{IsMemoryLike}
use Rattle.word_lowering.proofs.Lines.{Basis, IsGood, starts}
use Rattle.word_lowering.proofs.Related.{Both, sites_of, IsClosed, IsText, routines}
use Rattle.word_lowering.proofs.Scenes.{is_fixed}
use Rattle.word_lowering.proofs.Sites.{next_base}
use Rattle.word_lowering.proofs.SitesApart.{next_least}
use Rattle.word_lowering.proofs.Sources.{Lying, text_beside}
use Rattle.word_lowering.proofs.TextOperands.{FixedThere}

module _ (x : Basis) (g : Both) (line : BlockLine) (rest : List BlockLine) (y : IsGood x (starts g line rest)) where
  before : (b n : ℕ) → IsClosed x.table x.blocks b n → b + n ≤ next_base (sites_of (starts g line rest))
  before b n (inl h) = let l = next_least x.table x.blocks (sites_of (starts g line rest)) y.linked in omega (arith, h.1, l)
  before b n (inr h) = let l = next_least x.table x.blocks (sites_of (starts g line rest)) y.linked in omega (arith, h.1, l)

  own : (b n : ℕ) → IsClosed x.table x.blocks b n → Beside b n own_data_at HEAP_DATA
  own b n (inl h) = inr (omega (arith, h.0))
  own b n (inr h) = inr (omega (arith, h.0))

  in_heap : (b n long : ℕ) → IsClosed x.table x.blocks b n → Beside b n heap_at long
  in_heap b n long (inl h) = inl (omega (arith, h.1))
  in_heap b n long (inr h) = inl (omega (arith, h.1))

  -- what stands in the data is before all that hooks use, and beside homes that lie at names
  pub fixed_before : (place : ℕ) (text : List ℕ) → is_fixed g.ground place text → place + length text ≤ next_base (sites_of (starts g line rest))
  fixed_before place text is = before place (length text) (fixed_text x (starts g line rest) y place text is).among.0

  pub fixed_aside : (place : ℕ) (text : List ℕ) → is_fixed g.ground place text → (h : Home)
      → Lying x (sites_of (starts g line rest)) y.linked h.at (home_bytes h) → Beside place (length text) h.at (home_bytes h)
  fixed_aside place text is h lies =
      text_beside x (sites_of (starts g line rest)) y.linked h.at (home_bytes h) place (length text) lies
      (fixed_text x (starts g line rest) y place text is).among

  module _ (Homes : Home → Type 0) (lying : (h : Home) → Homes h → IsOwn h.base → Lying x (sites_of (starts g line rest)) y.linked h.at (home_bytes h))
      (m : Memory) (like : IsMemoryLike Homes (next_base (sites_of (starts g line rest))) g.memory m) where
    text_alike : (b n : ℕ) → IsText x.table x.blocks b n → bytes_at m b n ≡ bytes_at x.first b n
    text_alike b n text =
        like.beside b n (record {
          before = before b n text.0;
          own = own b n text.0;
          heap = in_heap b n (length g.memory.heap) text.0;
          homes = λ h p own. text_beside x (sites_of (starts g line rest)) y.linked h.at (home_bytes h) b n (lying h p own) text;
        }) ∙ y.memory.texts b n text

    pub fixed_alike : FixedThere (is_fixed g.ground) m
    fixed_alike place text is =
        let t = fixed_text x (starts g line rest) y place text is in (
          t.bytes,
          t.near,
          t.few,
          text_alike place (length text) t.among ∙ t.first,
          elsewhere x m place (length text) t.among.0,
        )

    -- the data of routines stands there too
    pub data_alike : AreBytes m.heap → HasData (routines x.table x.blocks) x.runtimes.others.statics m
    data_alike bytes =
        let at : ℕ = routines x.table x.blocks in record {
          scratch = x.law.stores (as_state (record x.first { places = m.places })) (as_state m) at SCRATCH_BYTES (record {
            regs = refl;
            pc = refl;
            code = refl;
            statics = like.statics ∙ y.memory.statics;
            heap = like.heap ∙ y.memory.heap;
            stack = refl;
            bytes = λ first. bytes;
          }) ∙ (x.given m.places).scratch;
          fixed = text_alike (at + SCRATCH_BYTES) (length (drop SCRATCH_BYTES x.runtimes.others.statics)) (x.given_closed, inr (omega arith))
              ∙ (x.given x.first.places).fixed;
        }
