-- What definitions answer, whose variables are declared behind the whole of them. Contracts of the pass alone speak of it.
use Rattle.std.specs.Prelude.{◌≡◌, ℕ, suc, ◌<◌, List, [], ◌∷◌, ◌++◌, length, map, Bool, Result, IfOk}
use Rattle.arc_base.specs.declared.place.Stop.{Stop}
use Rattle.arc_base.specs.Refusal.{Answers}
use Rattle.nim_tree.specs.declared.name.Declared.{Declared}
use Rattle.nim_types.specs.Types.{Ty}
use Rattle.nim_program.specs.View.{literal_of}
use Rattle.expr_rules.specs.Answers.{Answer}
use Rattle.expr_rules.specs.Env.{Env, Entry}
use Rattle.expr_parts.specs.View.{Grown, entry_of, WhatWithin}
use Rattle.decl_rules.specs.State.{State, Stated, stated_as, declaring}
use Rattle.decl_rules.specs.Definitions.{if_global, Fixed}
use Rattle.nim_types.specs.Table.{type_at}
use Rattle.decl_parts.specs.declared.state.State.{State as RustState}
use Rattle.decl_parts.specs.View.{Beside, Over, env_in, state_of, place_of, steps_of}
use Rattle.decl_stmts.specs.declared.definitions.New.{New}
use Rattle.decl_stmts.specs.declared.definitions.News.{News}
use Rattle.decl_stmts.specs.declared.constants.Fixed.{Fixed as RustFixed}

-- with a further variable, but for its declaration, and the next node
abbrev pub counting : State → (outermost : Bool) → Declared → Ty → ℕ → State
counting st outermost d ty n =
    record st { node = n; place = suc st.place; globals = st.globals ++ if_global outermost (place_of st.place d.text d.at ty) }

-- at most the next numbers and the globals have changed
pub record Kept (old new : RustState) : Type 0 where
  pub types : new.types ≡ old.types
  pub scope : new.scope ≡ old.scope
  pub outside : new.outside ≡ old.outside

-- the table has more types, and the scope is as it was
pub record Still (old new : RustState) : Type 0 where
  pub grown : Grown old.types new.types
  pub scope : new.scope ≡ old.scope
  pub outside : new.outside ≡ old.outside

-- a variable, where others of its definition wait to be declared
abbrev pub new_as : List Ty → Beside → RustState → List Entry → New → Stated
new_as ts b st waits n = stated_as (steps_of ts n.stmts.items) (declaring (state_of ts b st) (waits ++ entry_of ts n.decl ∷ []))

pub record Defining (old new : RustState) (said : List Ty → Env → State → Answer Stated) (result : Result New Stop) : Type 0 where
  pub still : Still old new
  pub answers : (ts : List Ty) (b : Beside) (waits : List Entry) → Over new ts
      → Answers (new_as ts b new waits) (said ts (env_in ts old) (declaring (state_of ts b old) waits)) result
  pub fits : IfOk result (λ n. WhatWithin (length new.types) n.decl.what)

-- variables of a definition, which wait to be declared
abbrev pub news_as : List Ty → Beside → RustState → News → Stated
news_as ts b st n = stated_as (steps_of ts n.stmts.items) (declaring (state_of ts b st) (map (entry_of ts) n.waits.items))

abbrev pub fixed_of : List Ty → RustFixed → Fixed
fixed_of ts f = record { of = type_at ts f.ty; literal = literal_of f.literal }

abbrev pub FixedWithin : ℕ → RustFixed → Type 0
FixedWithin n f = f.ty < n
