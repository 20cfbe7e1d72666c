-- What is done with operands: one line, for all operations and for calls, whose values wait by one more.
use Rattle.std.proofs.Common.{◌≡◌, ℕ, suc, ◌+◌, ◌*◌, Bool, true, false, List, [], ◌∷◌, Option, Some, None, refl, ap, ap₂, ◌∙◌, arith, ◌<◌, ◌≤◌}
use Rattle.std.specs.Prelude.{length, map, option_map, ◌&&◌, ◌||◌, if◌then◌else◌}
use Rattle.nim_types.specs.Types.{Ty, Facts}
use Rattle.nim_types.specs.Table.{type_at as type_by_number}
use Rattle.nim_program.specs.declared.operation.Operation.{Operation}
use Rattle.nim_program.specs.declared.operation.Operation.TheVariants as O
use Rattle.nim_program.specs.declared.expr.Node.{Node}
use Rattle.nim_program.specs.declared.operation.Use.{Use}
use Rattle.nim_program.specs.declared.operation.Use.TheVariants.{Owned, Given as ToPlace, Held, Lent, Looked}
use Rattle.nim_program.specs.declared.program.Mode.{Mode}
use Rattle.nim_program.specs.Program.{Act, Doing, Building, Giving, Calling, Literal, Args, NoArg, ByValue, ByPath, types_in}
use Rattle.nim_program.specs.Uses.{use_of}
use Rattle.nim_program.specs.View.{if_type}
use Rattle.nim_meaning.specs.Values.{Value, Holds, bytes, literal_value, nothing, Operand, Given, Slot, slots_for, values_in}
use Rattle.nim_meaning.specs.State.{State, slot_at}
use Rattle.nim_meaning.specs.Shapes.{waits}
use Rattle.nim_meaning.specs.Acts.{worked}
use Rattle.nim_meaning.specs.Deeds.{Deed, Waits, Changes, Gives, Works, carry, give, branch, costs, looks, ◌>>=◌}
use Rattle.nim_meaning.specs.Here.{Here, gives_hooked, any_hooked, form_for}
use Rattle.nim_meaning.specs.Places.{Destination, made_by, kept_if}
use Rattle.nim_meaning.specs.Table.{default_for, literal_bytes, with_fields, operates, constant_for, constant_row}
use Rattle.nim_meaning.specs.Table as table
use Rattle.nim_meaning.specs.Meaning.{destination, row, left_at, carried, handed_by, handed_on}
use Rattle.nim_meaning.specs.Aims.{handed_over, handed_bytes}
use Rattle.flat_code.specs.declared.line.From.{From}
use Rattle.flat_code.specs.declared.line.From.TheVariants as F
use Rattle.flat_code.specs.declared.line.Owning.TheVariants as W
use Rattle.flat_code.specs.declared.line.Line.{Line}
use Rattle.flat_code.specs.declared.line.Line.TheVariants as L
use Rattle.flat_code.specs.Pieces.{value_of, pieces_bytes, pieces_of}
use Rattle.flat_code.specs.Scene.{Scene, Temps, with_value, Did, Calls}
use Rattle.flat_code.specs.Lines.{is_there, using, using_all, handed_over as without_handed, traded}
use Rattle.flat_code.specs.Lines as does
use Rattle.flattening.specs.Numbering.{type_number, if_number, all_numbers, width, width_at, widths}
use Rattle.flattening.specs.ExprLines.{use_at, is_copied, is_lent_at, froms, act_line, back_line, none_fits, handed_on as handed_on_line}
use Rattle.flattening.specs.Flattened.{modes_of}
use Rattle.flattening.specs.Formed.{Scope, IsListed, IfListed, AreListed, ActFormed, count, taken_by}
use Rattle.flattening.proofs.Runs.{Runs, pays, known}
use Rattle.flattening.proofs.Worlds.{since_none}
use Rattle.flattening.proofs.Openings.{answering_all}
use Rattle.flattening.proofs.Temps.{Kept, AreWithin, within_wide, kept_none, kept_value, kept_handed, kept_wide, put_same}
use Rattle.flattening.proofs.Widths.{some_width}
use Rattle.flattening.proofs.Literals.{pieces_value, pieces_cost}
use Rattle.flattening.proofs.Spots.{Spot, here_of, there, scene, does_at, Lands, past, after, answers, further, performs, performs_ticked}
use Rattle.flattening.proofs.Standing.{grounded, Stands}
use Rattle.flattening.proofs.Groups.{Has}

-- ---- types by number

pub type_is : (types : List Ty) (ty : Option Ty) → IfListed types ty → if_type types (if_number types ty) ≡ ty
type_is types None h = refl
type_is types (Some ty) h = ap (λ t. Some t) h

pub types_are : (types : List Ty) (tys : List (Option Ty)) → AreListed types tys → map (if_type types) (all_numbers types tys) ≡ tys
types_are types [] h = refl
types_are types (ty ∷ tys) h = ap₂ (λ t ts. t ∷ ts) (type_is types ty h.0) (types_are types tys h.1)

-- ---- what is handed over

taken_within : {lo hi t : ℕ} (copied lent : Bool) (from : List From) → lo ≤ t → t < hi → AreWithin lo hi from →
    AreWithin lo hi ((if copied then F.Place (suc t) else if lent then F.Place t else F.Value t) ∷ from)
taken_within true lent from low high w = w
taken_within false true from low high w = w
taken_within false false from low high w = (low, high, w)

-- operands stand in the temporaries of their own parts
pub froms_within : (facts : Facts) (act : Act) (args : Args) (uses : ℕ → Use) (i t : ℕ) → AreWithin t (t + widths args) (froms facts act args uses i t)
froms_within facts act NoArg uses i t = tt
froms_within facts act (ByValue value rest) uses i t =
    let w = some_width value in
    taken_within (is_copied facts (uses i) value) (is_lent_at facts act (uses i) value) (froms facts act rest uses (suc i) (t + width value)) (omega arith)
    (omega (arith, w))
    (within_wide (froms facts act rest uses (suc i) (t + width value)) (omega arith) (omega arith) (froms_within facts act rest uses (suc i) (t + width value)))
froms_within facts act (ByPath path rest) uses i t =
    within_wide (froms facts act rest uses (suc i) (t + width_at path)) (omega arith) (omega arith)
    (froms_within facts act rest uses (suc i) (t + width_at path))

traded_within : (lo hi : ℕ) (hooked : Bool) (operation : Operation) (from : List From) → AreWithin lo hi from → AreWithin lo hi (traded hooked operation from)
traded_within lo hi true O.Assign [] w = tt
traded_within lo hi true O.Assign (F.Value t ∷ from) w = w.2
traded_within lo hi true O.Assign (F.Place t ∷ from) w = w
traded_within lo hi hooked operation from w = tt

-- ---- calls from a spot

many_slots : (xs : List Operand) → length (slots_for xs) ≡ length xs
many_slots [] = refl
many_slots (x ∷ xs) = ap (λ n. suc n) (many_slots xs)

many_handed : (facts : Facts) (args : Args) (uses : ℕ → Use) (i : ℕ) (xs : List Operand) → length (handed_over facts args uses i xs) ≡ length xs
many_handed facts NoArg uses i xs = refl
many_handed facts (ByValue value rest) uses i [] = refl
many_handed facts (ByValue value rest) uses i (x ∷ xs) = ap (λ n. suc n) (many_handed facts rest uses (suc i) xs)
many_handed facts (ByPath path rest) uses i [] = refl
many_handed facts (ByPath path rest) uses i (x ∷ xs) = ap (λ n. suc n) (many_handed facts rest uses (suc i) xs)

pub record CallsFollow (c : Spot) (names : (proc place : ℕ) → Type 0) : Type 0 where
  pub follow : (l : Line) (k : List Line) (to proc work : ℕ) (slots : List Slot) (temps : Temps) (s : State) → does_at c temps s.world l
      ≡ Calls to proc slots work →
      length slots ≡ taken_by c.fixed.program.procs proc → length s.world.frames ≡ suc c.level →
      ((place : ℕ) → names proc place → is_there (slot_at s.world 0 place) ≡ true) →
      Runs c.fixed (Lands c k to (suc to) temps s.world (Has to)) (suc work) 0 (there c (l ∷ k) temps s.world) s.meter
      ((here_of c).calls proc slots s)

module _ (c : Spot) (top : Bool) (room : ℕ → Type 0) (names : (proc place : ℕ) → Type 0) (Open : Scope) where
  abbrev facts : Facts
  facts = c.fixed.program.facts

  abbrev types : List Ty
  types = c.fixed.program.types

  abbrev modes : (proc position : ℕ) → Mode
  modes = modes_of c.fixed.program c.fixed.plan

  abbrev here : Here
  here = here_of c

  -- operands as an act's line takes them
  abbrev pub given_to : Act → Args → (uses : ℕ → Use) → List Operand → List Operand
  given_to (Calling proc of_params) args uses xs = handed_over facts args uses 0 xs
  given_to act args uses xs = xs

  pub record Takes (act : Act) (args : Args) (uses : ℕ → Use) (t : ℕ) (xs : List Operand) (now : Temps) : Type 0 where
    pub fetched : (go : List Operand → Did) → using_all now (froms facts act args uses 0 t) go ≡ go (given_to act args uses xs)
    pub many : length xs ≡ count args

  own : (t : ℕ) (temps : Temps) (v : Value) → Kept t (suc t) temps (with_value t temps v)
  own t temps v = kept_value t v (omega arith) (omega arith) (kept_none t (suc t) temps)

  -- a temporary gets what a deed gives, which is one work and more; what is handed over is in its temporaries no more
  gives_follow : (from : List From) (l : Line) (deed : Deed Value) (t hi : ℕ) (k : List Line) (temps : Temps) (s : State) → t < hi → AreWithin t hi from →
      does_at c temps s.world l ≡ does.gives (scene c (without_handed from temps) s.world) t (costs 1 deed) →
      Runs c.fixed (Lands c k t hi temps s.world (Has t)) 0 2 (there c (l ∷ k) temps s.world) s.meter (carry (costs 1 deed) s)
  gives_follow from l deed t hi k temps s less within is =
      let left = without_handed from temps in
      performs_ticked c (λ v. with_value t left v) deed s (omega arith)
      (answering_all (λ v. Has t v (with_value t left v)) (λ v. put_same left.values t v) deed)
      (λ v. kept_value t v (omega arith) less (kept_handed from within (kept_none t hi temps))) is

  -- a literal, by the line of its type's number
  abbrev literal_deed : Literal → Destination → Ty → Deed Value
  literal_deed literal to ty =
      constant_for (gives_hooked facts (Some ty)) (form_for facts (Some ty)) (literal_bytes literal) (literal_value literal)
      >>= made_by (gives_hooked facts (Some ty)) to

  literal_line : (x : Scene) (t : ℕ) (literal : Literal) (to : Destination) (ty : Ty) → IsListed types ty →
      does.gives x t (constant_row facts (Some (type_by_number types (type_number types ty))) (pieces_bytes (pieces_of literal)) (value_of (pieces_of literal))
      >>= made_by (gives_hooked facts (Some (type_by_number types (type_number types ty)))) to)
      ≡ does.gives x t (costs 1 (literal_deed literal to ty))
  literal_line x t literal to ty f =
      let by_number = type_by_number types (type_number types ty) in
      let whole : ℕ → Value → Ty → Did = λ n v ty. does.gives x t (constant_row facts (Some ty) n v >>= made_by (gives_hooked facts (Some ty)) to) in
      ap (λ n. whole n (value_of (pieces_of literal)) by_number) (pieces_cost literal)
      ∙ (ap (λ v. whole (literal_bytes literal) v by_number) (pieces_value literal) ∙ ap (λ ty. whole (literal_bytes literal) (literal_value literal) ty) f)

  -- ---- a call's value waits, if it does

  waits_follow : (how : Use) (node : ℕ) (v : Value) (t : ℕ) (k : List Line) (now : Temps) (b : State) → now.values t ≡ Some v →
      Runs c.fixed (Lands c k t (suc t) now b.world (Has t)) 10 2 (there c (L.Own (W.Waits node) (F.Value t ∷ []) ∷ k) now b.world) b.meter
      (carry (Works (bytes v) (Changes (Waits c.level node (Holds v)) (Gives v))) b)
  waits_follow how node v t k now b has =
      performs c (λ u. now) (Works (bytes v) (Changes (Waits c.level node (Holds v)) (Gives v))) b 1 (omega arith) has (λ u. kept_none t (suc t) now)
      (ap (λ o. using (option_map Given o) (λ x. does.acts (scene c now b.world) (costs 1 (does.owns (known c.fixed) (W.Waits node) c.level (x ∷ []))))) has)

  kept_follows : (hooked : Bool) (how : Use) (node : ℕ) (v : Value) (t : ℕ) (k : List Line) (now : Temps) (b : State) → now.values t ≡ Some v →
      Runs c.fixed (Lands c k t (suc t) now b.world (Has t)) 10 2
      (there c (if hooked && waits how then L.Own (W.Waits node) (F.Value t ∷ []) ∷ k else k) now b.world) b.meter
      (carry (kept_if hooked (destination here how node) v) b)
  kept_follows false how node v t k now b has = answers {P = Has t} v b now (omega arith) has (kept_none t (suc t) now) (since_none c.level b.world)
  kept_follows true Owned node v t k now b has = answers {P = Has t} v b now (omega arith) has (kept_none t (suc t) now) (since_none c.level b.world)
  kept_follows true ToPlace node v t k now b has = answers {P = Has t} v b now (omega arith) has (kept_none t (suc t) now) (since_none c.level b.world)
  kept_follows true Held node v t k now b has = waits_follow Held node v t k now b has
  kept_follows true Lent node v t k now b has = waits_follow Lent node v t k now b has
  kept_follows true Looked node v t k now b has = waits_follow Looked node v t k now b has

  -- ---- ONE line for what is done with operands

  pub act_follows : CallsFollow c names → (act : Act) (operands : Args) (node : Node) (ty : Option Ty) →
      ActFormed (grounded c top room names) Open ty act operands → (how : Use) (xs : List Operand) (u t : ℕ) (k : List Line) (temps : Temps) (s : State) →
      t < u → Takes act operands (use_of modes act) u xs temps → Stands c room Open s.world →
      Runs c.fixed (Lands c k t (u + widths operands) temps s.world (Has t)) 0 2
      (there c (act_line types facts modes t act (use_at how node.number) ty (types_in operands) (froms facts act operands (use_of modes act) 0 u)
      ∷ back_line types facts modes t act (use_at how node.number) ty k) temps s.world) s.meter
      (carried here node.number act how ty operands xs s)
  act_follows calls (Doing operation) operands node ty f how xs u t k temps s less takes h =
      let of = types_in operands in
      let to = destination here how node.number in
      let from = froms facts (Doing operation) operands (use_of modes (Doing operation)) 0 u in
      let hooked = any_hooked facts (map (if_type types) (all_numbers types of)) in
      let gone = traded hooked operation from in
      let x = scene c (without_handed gone temps) s.world in
      gives_follow gone _ (operates operation facts ty of xs >>= kept_if (gives_hooked facts ty) to) t (u + widths operands) k temps s (omega (arith, less))
      (traded_within t (u + widths operands) hooked operation from (within_wide from (omega (arith, less)) (omega arith)
      (froms_within facts (Doing operation) operands (use_of modes (Doing operation)) 0 u)))
      (takes.fetched (λ xs. does.gives x t (row facts (Doing operation) to (if_type types (if_number types ty))
      (map (if_type types) (all_numbers types of)) xs))
      ∙ ap₂ (λ ty of. does.gives x t (row facts (Doing operation) to ty of xs)) (type_is types ty f.0) (types_are types of f.1))
  act_follows calls (Building fields) operands node None f how xs u t k temps s less takes h = absurd f
  act_follows calls (Building fields) operands node (Some ty) f how xs u t k temps s less takes h =
      let to = destination here how node.number in
      let x = scene c temps s.world in
      let d = default_for facts (Some ty) in
      gives_follow [] _ (costs (bytes d) (give (with_fields d fields (values_in xs))) >>= kept_if (gives_hooked facts (Some ty)) to) t (u + widths operands)
      k temps s
      (omega (arith, less)) tt
      (takes.fetched (λ xs. does.gives x t (row facts (Building fields) to (Some (type_by_number types (type_number types ty))) [] xs))
      ∙ ap (λ ty. does.gives x t (row facts (Building fields) to (Some ty) [] xs)) f)
  act_follows calls (Giving literal) operands node None f how xs u t k temps s less takes h = absurd f
  act_follows calls (Giving literal) operands node (Some ty) f how xs u t k temps s less takes h =
      let to = destination here how node.number in
      gives_follow [] _ (literal_deed literal to ty) t (u + widths operands) k temps s (omega (arith, less)) tt
      (literal_line (scene c temps s.world) t literal to ty f)
  act_follows calls (Calling proc params) operands node ty f how xs u t k temps s less takes h =
      let uses = use_of modes (Calling proc params) in
      let ys = handed_over facts operands uses 0 xs in
      let n = suc (handed_bytes ys) in
      let l = act_line types facts modes t (Calling proc params) (use_at how node.number) ty (types_in operands)
      (froms facts (Calling proc params) operands uses 0 u) in
      let more = back_line types facts modes t (Calling proc params) (use_at how node.number) ty k in
      after {c = c} {p = 0} {q = 10} 10 (omega arith) (omega arith)
      (pays (12 * n) n (omega arith)
      (past {q' = 10} (left_at node.number) 10 (omega arith) (omega arith)
      (calls.follow l more t proc n (slots_for ys) temps (worked n s) (takes.fetched (λ ys. Calls t proc (slots_for ys) (suc (handed_bytes ys))))
      (many_slots ys ∙ (many_handed facts operands uses 0 xs ∙ (takes.many ∙ f.1))) h.framed (λ place is. h.open_is true place (f.2 place is)))
      (λ v b now has kept since. answers {P = Has t} v b now (omega arith) has kept since)))
      (λ v b now has kept since.
      further {lo' = t} {hi' = suc t} (omega arith) (omega (arith, less)) (kept_wide (omega arith) (omega (arith, less)) kept) since (λ v last p kept. p)
      (kept_follows (gives_hooked facts ty) how node.number v t k now b has))

  -- ---- the value of a branch is handed on

  pub hands_follow : (how : Use) (n : ℕ) (ty : Option Ty) → IfListed types ty → (v : Value) (t u : ℕ) (k : List Line) (temps : Temps) →
      temps.values u ≡ Some v →
      (s : State) → Runs c.fixed (Lands c k t (suc t) temps s.world (Has t)) 1 0
      (there c (handed_on_line types facts modes t u (use_at how n) ty ∷ k) temps s.world) s.meter (handed_on here how n ty v s)
  hands_follow how n ty f v t u k temps has s =
      let x = scene c temps s.world in
      let deed = handed_by facts (destination here how n) ty v in
      performs c (λ v. with_value t temps v) deed s 1 (omega arith)
      (answering_all (λ v. Has t v (with_value t temps v)) (λ v. put_same temps.values t v) deed) (own t temps)
      (ap (λ o. using o (λ v. does.gives x t (costs 1 (handed_by facts (destination here how n) (if_type types (if_number types ty)) v)))) has
      ∙ ap (λ ty. does.gives x t (costs 1 (handed_by facts (destination here how n) ty v))) (type_is types ty f))

  -- its row looks at nothing, also where it has hooks
  default_is : (x : Scene) (t : ℕ) (b : Bool) (d : Deed Value) (rest : Value → Deed Value) →
      does.gives x t (costs 1 (branch b (looks (λ world. d)) d) >>= rest) ≡ does.gives x t (costs 1 d >>= rest)
  default_is x t true d rest = refl
  default_is x t false d rest = refl

  -- where no branch is chosen, the default is
  pub default_follows : (how : Use) (n : ℕ) (ty : Option Ty) → IfListed types ty → (t : ℕ) (k : List Line) (temps : Temps) (s : State) →
      Runs c.fixed (Lands c k t (suc t) temps s.world (Has t)) 5 0
      (there c (none_fits types facts modes t ty (use_at how n) ∷ k) temps s.world) s.meter
      (handed_on here how n ty (default_for facts ty) s)
  default_follows how n None f t k temps s =
      performs c (λ v. with_value t temps v) (handed_by facts (destination here how n) None nothing) s 5 (omega arith) (put_same temps.values t nothing)
      (own t temps) refl
  default_follows how n (Some ty) f t k temps s =
      let x = scene c temps s.world in
      let to = destination here how n in
      let d = default_for facts (Some ty) in
      let deed = handed_by facts to (Some ty) d in
      performs c (λ v. with_value t temps v) deed s 1 (omega arith)
      (answering_all (λ v. Has t v (with_value t temps v)) (λ v. put_same temps.values t v) deed) (own t temps)
      (ap (λ ty. does.gives x t (row facts (Doing O.Default) to (Some ty) [] [])) f
      ∙ default_is x t (gives_hooked facts (Some ty) || false) (table.does O.Default facts (Some ty) [] []) (kept_if (gives_hooked facts (Some ty)) to))
