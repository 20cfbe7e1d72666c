-- What a procedure is that may be called.
use Rattle.std.proofs.Common.{◌≡◌, ℕ, ◌+◌, ◌≤◌, List, [], ◌∷◌, Some, None, true, false, length}
use Rattle.std.specs.Prelude.{slice_get, not}
use Rattle.nim_types.specs.declared.types.TypeDef.{TypeDef}
use Rattle.flat_code.specs.declared.block.BlockLine.{BlockLine}
use Rattle.flat_code.specs.declared.code.Code.{Code}
use Rattle.word_code.specs.declared.word.TheConstants.{SPARE_ROOM}
use Rattle.word_code.specs.declared.word.WordProc.{WordProc}
use Rattle.flat_code.specs.Scene.{known_in}
use Rattle.flat_code.specs.Fits.{Signature}
use Rattle.flat_code.specs.Running.{callable}
use Rattle.flat_code.specs.Codes.{proc_of, procs_of}
use Rattle.word_code.specs.Words.{from_proc}
use Rattle.word_lowering.specs.declared.homes.Alias.TheVariants.{Own}
use Rattle.word_lowering.specs.declared.homes.Home.TheVariants.{Placed}
use Rattle.word_lowering.specs.declared.homes.Housed.{Housed}
use Rattle.word_lowering.specs.Layouts.{is_empty, kept_in, params_in}
use Rattle.word_lowering.specs.LineCode.{or_none, proc_number}
use Rattle.word_lowering.specs.Lowered.{all_layouts, lowered, word_proc}
use Rattle.word_lowering.proofs.Sites.{Body, around, Among, IsBody}
use Rattle.word_lowering.proofs.FirstPlaces.{ParamsAre, Orderly}
use Rattle.word_lowering.proofs.WaiterHomes.{AreFrom}
use Rattle.word_lowering.specs.declared.homes.TheConstants.{OWN_FROM}

pub record Callee (table : List TypeDef) (blocks : Code BlockLine) (proc : ℕ) (s : Signature) : Type 0 where
  pub body : Body
  pub is : IsBody table blocks body
  pub number : body.number ≡ proc_number proc
  pub start : body.start ≡ false
  pub block : slice_get (callable (procs_of (known_in table) blocks)) proc ≡ Some (proc_of (known_in table) body.proc)
  pub layout : or_none (slice_get (all_layouts table blocks.procs) proc) ≡ body.own
  pub params : ParamsAre table (params_in body.own.all) s.takes
  pub among : (h : Housed) → Among h (params_in body.own.all) → Among h body.own.all
  pub homes : (h : Housed) → Among h (params_in body.own.all) → h.alias ≡ Own
  pub spare : (h : Housed) (at : ℕ) → Among h (params_in body.own.all) → h.home ≡ Placed at → at + h.bytes ≤ SPARE_ROOM
  pub orderly : Orderly table body s
  -- variables of what waits are behind those that a caller hands on, and no more than places that may wait
  pub waiters_from : AreFrom (OWN_FROM + kept_in (params_in body.own.all)) body.own.waiters
  pub waiters_few : length body.own.waiters ≤ (proc_of (known_in table) body.proc).waits
  -- what has no lines takes nothing and gives nothing
  pub quiet : body.proc.lines ≡ [] → (s.takes ≡ []) × (s.gives ≡ None)
  -- and is no hook
  pub silent : body.proc.lines ≡ [] → body.proc.hook ≡ None
  pub runs : body.own.runs ≡ not (is_empty body.proc.lines)
  pub found : body.own.runs ≡ true → (others : List WordProc) × (from_proc (proc_number proc) (lowered table blocks).procs
      ≡ word_proc (around table blocks body) body.number body.proc ∷ others)
