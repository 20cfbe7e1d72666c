-- Flat code of a body follows the body, up to where its parameters end and it returns.
use Rattle.std.proofs.Common.{◌≡◌, ℕ, ◌<◌, Bool, true, false, List, [], ◌∷◌, Option, Some, None, refl, subst}
use Rattle.std.specs.Prelude.{◌-◌}
use Rattle.std.proofs.lemmas.Bool.{false≢true}
use Rattle.nim_types.specs.Types.{Ty}
use Rattle.nim_program.specs.Program.{Declared, Param, Body}
use Rattle.nim_meaning.specs.State.{World, State}
use Rattle.nim_meaning.specs.Acts.{Broke, Continued, Returned, Raised, Outcome, On, Out}
use Rattle.nim_meaning.specs.Meaning.{exec_all}
use Rattle.flat_code.specs.declared.line.Line.{Line}
use Rattle.flat_code.specs.declared.line.Line.TheVariants as L
use Rattle.flat_code.specs.Scene.{Temps, no_temps}
use Rattle.flat_code.specs.Running.{Waiting}
use Rattle.flattening.specs.StmtLines.{Exits, outermost as no_loop, param_ends, number_of, body_lines}
use Rattle.flattening.specs.Flattened.{modes_of}
use Rattle.flattening.specs.Formed.{Scope, AtFirst, ResultFormed, BodyFormed}
use Rattle.flattening.proofs.Runs.{Fixed, M, Runs}
use Rattle.flattening.proofs.Worlds.{Since}
use Rattle.flattening.proofs.Puts.{Puts, puts_none, puts_line, is_empty, ◌>>◌}
use Rattle.flattening.proofs.Spots.{Spot, here_of, there, weaker}
use Rattle.flattening.proofs.Standing.{grounded, Stands}
use Rattle.flattening.proofs.Acting.{CallsFollow}
use Rattle.flattening.proofs.Leaving.{PutsExits, Around, Left, puts_place_end}
use Rattle.flattening.proofs.PutsStmts.{puts_stmts}
use Rattle.flattening.proofs.Stmts.{IsListedResult}
use Rattle.flattening.proofs.Executing.{block_follows}

-- where a call of a body stands
abbrev pub spot_of : Fixed → List Param → Body → (level left : ℕ) → List (Waiting Line) → Spot
spot_of x params body level left waiting = record {
  fixed = x;
  whole = body_lines x.program.types x.program.facts (modes_of x.program x.plan) params body;
  level = level;
  left = left;
  waiting = waiting;
  result = body.result;
}

-- before the lines by which parameters end, and the one that returns
abbrev pub ends_of : Spot → List Param → List Line → List Line
ends_of c params k = param_ends c.fixed.program.types c.fixed.program.facts params (L.Return (number_of c.result) ∷ k)

pub record ReturnsAt (c : Spot) (params : List Param) (old new : World) (m : M) : Type 0 where
  pub k : List Line
  pub now : Temps
  pub is : m ≡ there c (ends_of c params k) now new
  pub since : Since c.level old new

-- however control left the body
abbrev pub Back : (c : Spot) → List Param → World → Outcome (Unit {0}) → State → M → Type 0
Back c params old (Out (Raised exception by)) b m = ⊥
Back c params old flow b m = ReturnsAt c params old b.world m

abbrev pub room_of : Body → ℕ → Type 0
room_of body place = place - body.first < body.places

pub puts_params : (c : Spot) (params : List Param) (lo hi : ℕ) → Puts lo hi (param_ends c.fixed.program.types c.fixed.program.facts params)
puts_params c [] lo hi = puts_none
puts_params c (param ∷ params) lo hi = puts_params c params lo hi >> puts_place_end c param.place lo hi

pub result_listed : (types : List Ty) (Open : Scope) (result : Option Declared) → ResultFormed types Open result → IsListedResult types result
result_listed types Open None f = f
result_listed types Open (Some place) f = f.1

pub result_among : (types : List Ty) (Open : Scope) (result : Option Declared) → ResultFormed types Open result → (place : Declared) →
    result ≡ Some place → Open false place.number
result_among types Open result f place e = (subst (λ r. ResultFormed types Open r) e f).0

module _ (x : Fixed) (params : List Param) (body : Body) (level left : ℕ) (waiting : List (Waiting Line)) where
  abbrev c : Spot
  c = spot_of x params body level left waiting

  abbrev exits : Exits
  exits = no_loop (ends_of c params)

  puts_exits : PutsExits exits
  puts_exits = record { breaks = puts_none; continues = puts_none; returns = puts_params c params _ _ >> puts_line (L.Return (number_of body.result)) refl }

  -- it has lines
  pub some_lines : is_empty c.whole ≡ false
  some_lines =
      (puts_stmts x.program.types x.program.facts (modes_of x.program x.plan) body.result body.stmts exits 0 puts_exits).some (ends_of c params [])
      ((puts_params c params 0 0).some (L.Return (number_of body.result) ∷ []) refl)

  abbrev nothing_around : Around c exits false
  nothing_around = record { break_at = 0; continue_at = 0; break_to = []; continue_to = []; puts = puts_exits }

  returns_at : (lo hi : ℕ) (temps : Temps) (world : World) (flow : Outcome (Unit {0})) (b : State) (m : M) →
      Left c nothing_around (ends_of c params []) lo hi temps world flow b m → Back c params world flow b m
  returns_at lo hi temps world (On done) b m g = record { k = []; now = g.now; is = g.is; since = g.since }
  returns_at lo hi temps world (Out (Broke by)) b m g = absurd (false≢true g.2)
  returns_at lo hi temps world (Out (Continued by)) b m g = absurd (false≢true g.2)
  returns_at lo hi temps world (Out (Returned by)) b m g = record { k = g.0; now = g.1.now; is = g.1.is; since = g.1.since }
  returns_at lo hi temps world (Out (Raised exception by)) b m g = absurd g

  pub body_follows : (top : Bool) (names : (proc place : ℕ) → Type 0) (many : ℕ) (named : ℕ → Type 0) → CallsFollow c names →
      (top ≡ true → level ≡ 0) → BodyFormed (grounded c top (room_of body) names) (AtFirst many named body) params body → (s : State) →
      Stands c (room_of body) (AtFirst many named body) s.world →
      Runs x (Back c params s.world) 0 0 (there c c.whole no_temps s.world) s.meter (exec_all body.stmts (here_of c) s)
  body_follows top names many named calls outermost f s h =
      weaker c
      (block_follows c top (room_of body) names calls outermost (result_listed x.program.types (AtFirst many named body) body.result f.0) body.stmts false
      (AtFirst many named body) f.2 exits nothing_around 0 (ends_of c params [])
      (record {
        breaks = λ is. absurd (false≢true is);
        continues = λ is. absurd (false≢true is);
        break_before = λ is. absurd (false≢true is);
        continue_before = λ is. absurd (false≢true is);
      })
      (record { all = λ name le. refl }) no_temps s h)
      (λ flow b m g. returns_at _ _ no_temps s.world flow b m g)
