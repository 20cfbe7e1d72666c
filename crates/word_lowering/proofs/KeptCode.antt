-- The code by which values wait: where nothing may wait it is none; it stands before what follows, and names variables of its procedure alone.
use Rattle.std.proofs.Common.{◌≡◌, ℕ, ◌<◌, ◌≤◌, List, [], ◌∷◌, Bool, true, false, Option, Some, None, refl, ap, ◌∙◌}
use Rattle.std.specs.Prelude.{nat_eq, ◌&&◌, if◌then◌else◌}
use Rattle.nim_types.specs.declared.types.TypeDef.{TypeDef}
use Rattle.nim_meaning.specs.Shapes.{waits}
use Rattle.nim_meaning.specs.Waiting.{reads_kept}
use Rattle.flat_code.specs.declared.line.From.{From}
use Rattle.flat_code.specs.declared.line.From.TheVariants as F
use Rattle.flat_code.specs.declared.line.Line.{Line}
use Rattle.flat_code.specs.declared.line.Line.TheVariants as L
use Rattle.flat_code.specs.declared.line.Owning.{Owning}
use Rattle.flat_code.specs.declared.line.Owning.TheVariants as W
use Rattle.flat_code.specs.Waits.{constant_waits}
use Rattle.word_code.specs.declared.word.WordInstr.{WordInstr}
use Rattle.word_code.specs.declared.word.WordInstr.TheVariants.{Place}
use Rattle.hook_lifting.specs.declared.lifted.Hook.TheVariants.{Copies}
use Rattle.word_lowering.specs.declared.homes.TheConstants.{OWN_FROM}
use Rattle.word_lowering.specs.declared.homes.Housed.{Housed}
use Rattle.word_lowering.specs.declared.homes.Waiter.{Waiter}
use Rattle.word_lowering.specs.LineCode as code
use Rattle.word_lowering.specs.LineCode.{Around, variable_of}
use Rattle.word_lowering.specs.Spots.{moves, spot_of, address}
use Rattle.word_lowering.specs.Stored.{is_hooked}
use Rattle.word_lowering.specs.Layouts.{holds_address}
use Rattle.word_lowering.specs.WaitingCode.{waiter_at, waiting_house, waits_code, leaves_code, gives_hooked, kept_if, kept_code}
use Rattle.word_lowering.proofs.CalledHooks.{ends_front, ends_named, hook_front, hook_named, waiter_ends_front, waiter_ends_named}
use Rattle.word_lowering.proofs.Fronts.{IsFront, front_none, front_on, moved_front}
use Rattle.word_lowering.proofs.LayoutBounds.{IsBelow}
use Rattle.word_lowering.proofs.NamedCode.{AllNamed}
use Rattle.word_lowering.proofs.NamedCode as named
use Rattle.word_lowering.proofs.WaiterHomes.{AreBelow}
use Rattle.word_lowering.specs.declared.homes.Alias.{Alias}
use Rattle.word_lowering.specs.declared.homes.Home.{Home}
use Rattle.word_lowering.specs.declared.homes.Alias.TheVariants as alias
use Rattle.word_lowering.specs.declared.homes.Home.TheVariants.{Variable, Placed, Static}

-- ---- where nothing may wait

module _ (table : List TypeDef) (value : ℕ → Housed) where
  if_none : (kept : Bool) (node to : ℕ) (k : List WordInstr) → kept_if table [] value kept node to k ≡ k
  if_none true node to k = refl
  if_none false node to k = refl

  kept_none : (line : Line) (k : List WordInstr) → kept_code table [] value line k ≡ k
  kept_none (L.Apply to operation how ty of from) k = if_none (gives_hooked table ty && waits how.how) how.node to k
  kept_none (L.Construct to how ty fields from) k = if_none (is_hooked table ty && waits how.how) how.node to k
  kept_none (L.Constant to how ty pieces) k = if_none (is_hooked table ty && constant_waits pieces how.how) how.node to k
  kept_none (L.Get to from how ty) k = if_none (gives_hooked table ty && reads_kept how.how) how.node to k
  kept_none (L.Pass to from how ty) k = if_none (gives_hooked table ty && waits how.how) how.node to k
  kept_none line k = refl

pub kept_quiet : (table : List TypeDef) (ws : List Waiter) (value : ℕ → Housed) (line : Line) (k : List WordInstr) → ws ≡ []
    → kept_code table ws value line k ≡ k
kept_quiet table ws value line k e = ap (λ us. kept_code table us value line k) e ∙ kept_none table value line k

-- ---- which lines

-- whether a line's value waits, by its types and its use
abbrev pub value_waits : List TypeDef → Line → Bool
value_waits table (L.Apply to operation how ty of from) = gives_hooked table ty && waits how.how
value_waits table (L.Construct to how ty fields from) = is_hooked table ty && waits how.how
value_waits table (L.Constant to how ty pieces) = is_hooked table ty && constant_waits pieces how.how
value_waits table (L.Get to from how ty) = gives_hooked table ty && reads_kept how.how
value_waits table (L.Pass to from how ty) = gives_hooked table ty && waits how.how
value_waits table line = false

module _ (table : List TypeDef) (ws : List Waiter) (value : ℕ → Housed) where
  if_not : (kept : Bool) (node to : ℕ) (k : List WordInstr) → kept ≡ false → kept_if table ws value kept node to k ≡ k
  if_not kept node to k e = ap (λ b. kept_if table ws value b node to k) e

  -- where it doesn't, no code stands behind it
  pub none_kept : (line : Line) (k : List WordInstr) → value_waits table line ≡ false → kept_code table ws value line k ≡ k
  none_kept (L.Apply to operation how ty of from) k e = if_not (gives_hooked table ty && waits how.how) how.node to k e
  none_kept (L.Construct to how ty fields from) k e = if_not (is_hooked table ty && waits how.how) how.node to k e
  none_kept (L.Constant to how ty pieces) k e = if_not (is_hooked table ty && constant_waits pieces how.how) how.node to k e
  none_kept (L.Get to from how ty) k e = if_not (gives_hooked table ty && reads_kept how.how) how.node to k e
  none_kept (L.Pass to from how ty) k e = if_not (gives_hooked table ty && waits how.how) how.node to k e
  none_kept line k e = refl

  -- where it does, it is copied: said of each form alone, since each has its node and its temporary
  pub is_kept : (kept : Bool) (node to : ℕ) (k : List WordInstr) → kept ≡ true
      → kept_if table ws value kept node to k ≡ waits_code (waiter_at node ws) (value to) k
  is_kept kept node to k e = ap (λ b. kept_if table ws value b node to k) e

-- ---- before what follows

module _ (own many : ℕ) where
  waits_front : (there : Option Waiter) (from : Housed) → IsFront own many (waits_code there from)
  waits_front None from = front_none own many
  waits_front (Some w) from =
      front_on own many (moves (waiting_house w) from) (λ k. Place w.variable w.at ∷ k)
      (moved_front own many from.is_word from.bytes (spot_of (waiting_house w)) (spot_of from)) (record { is = λ k. refl; fine = tt })

  leaves_front : (there : Option Waiter) → IsFront own many (leaves_code there)
  leaves_front None = front_none own many
  leaves_front (Some w) = record { is = λ k. refl; fine = tt }

  module _ (table : List TypeDef) (ws : List Waiter) (value : ℕ → Housed) where
    if_front : (kept : Bool) (node to : ℕ) → IsFront own many (kept_if table ws value kept node to)
    if_front true node to = waits_front (waiter_at node ws) (value to)
    if_front false node to = front_none own many

    kept_front : (line : Line) → IsFront own many (kept_code table ws value line)
    kept_front (L.Apply to operation how ty of from) = if_front (gives_hooked table ty && waits how.how) how.node to
    kept_front (L.Construct to how ty fields from) = if_front (is_hooked table ty && waits how.how) how.node to
    kept_front (L.Constant to how ty pieces) = if_front (is_hooked table ty && constant_waits pieces how.how) how.node to
    kept_front (L.Get to from how ty) = if_front (gives_hooked table ty && reads_kept how.how) how.node to
    kept_front (L.Pass to from how ty) = if_front (gives_hooked table ty && waits how.how) how.node to
    kept_front line = front_none own many

  pub behind_front : (x : Around) (line : Line) → IsFront own many (code.behind_line x line)
  behind_front x line = kept_front x.table x.own.waiters (code.value x) line

  address_front : (to : ℕ) (home : Home) → IsFront own many (λ k. address to home ∷ k)
  address_front to (Variable v) = record { is = λ k. refl; fine = tt }
  address_front to (Placed at) = record { is = λ k. refl; fine = tt }
  address_front to (Static at) = record { is = λ k. refl; fine = tt }

  pub root_front : (a : Alias) (to : ℕ) (home : Home) → IsFront own many (code.root_code a to home)
  root_front alias.Own to home = address_front to home
  root_front (alias.Place p global) to home = front_none own many
  root_front (alias.Value t) to home = front_none own many
  root_front (alias.Node n) to home = front_none own many
  root_front (alias.Text behind size) to home = front_none own many

  pub owning_front : (x : Around) → 7 < own → (what : Owning) (from : List From) → IsFront own many (code.owning_code x what from own)
  owning_front x high (W.TakenUp node) from = leaves_front (waiter_at node x.own.waiters)
  owning_front x high (W.Waits node) (F.Value t ∷ []) = waits_front (waiter_at node x.own.waiters) (code.value x t)
  owning_front x high (W.TemporaryEnds node ty) from = waiter_ends_front own many x high ty (waiter_at node x.own.waiters)
  owning_front x high (W.PlaceEnds place ty) from = ends_front own many x (holds_address (code.declared x place)) ty (code.declared x place).home
  owning_front x high (W.PlaceCopies place ty) from =
      hook_front own many x Copies ty (code.declared x place).home (code.operand_at (code.operands x from) 0).home
  owning_front x high (W.ResultGets place ty) from =
      hook_front own many x (code.taking from 0) ty (code.declared x place).home (code.operand_at (code.operands x from) 0).home
  owning_front x high (W.PlaceStands p) (F.Place t ∷ []) = address_front (code.variable_of (code.place x p false)) (code.location x t).home
  owning_front x high what from = front_none own many

-- ---- variables of the procedure

abbrev VariableBelow : ℕ → Option Waiter → Type 0
VariableBelow n None = Unit {0}
VariableBelow n (Some w) = w.variable < n

found_below : (n node : ℕ) (ws : List Waiter) → AreBelow n ws → VariableBelow n (waiter_at node ws)
found_below n node [] below = tt
found_below n node (w ∷ ws) below = by (nat_eq w.node node) (found_below n node ws below.1)
  where
    by : (b : Bool) → VariableBelow n (waiter_at node ws) → VariableBelow n (if b then Some w else waiter_at node ws)
    by true rest = below.0
    by false rest = rest

module _ (vars : ℕ) (many : OWN_FROM ≤ vars) where
  waits_named : (there : Option Waiter) (from : Housed) {k : List WordInstr} → VariableBelow vars there → IsBelow vars from.home → AllNamed vars k
      → AllNamed vars (waits_code there from k)
  waits_named None from v f rest = rest
  waits_named (Some w) from v f rest =
      named.moved vars many from.is_word from.bytes (spot_of (waiting_house w)) (spot_of from) tt (named.spot_below vars from f)
      (named.place vars many v rest)

  leaves_named : (there : Option Waiter) {k : List WordInstr} → VariableBelow vars there → AllNamed vars k → AllNamed vars (leaves_code there k)
  leaves_named None v rest = rest
  leaves_named (Some w) v rest = named.constant vars many v rest

  pub root_named : (a : Alias) (to : ℕ) (home : Home) {k : List WordInstr} → to < vars → IsBelow vars home → AllNamed vars k
      → AllNamed vars (code.root_code a to home k)
  root_named alias.Own to home t h rest = named.address vars many to home t h rest
  root_named (alias.Place p global) to home t h rest = rest
  root_named (alias.Value u) to home t h rest = rest
  root_named (alias.Node n) to home t h rest = rest
  root_named (alias.Text behind size) to home t h rest = rest

  module _ (x : Around) (below : AreBelow vars x.own.waiters) (values : (t : ℕ) → IsBelow vars (code.value x t).home) where
    at_named : (node to : ℕ) {k : List WordInstr} → AllNamed vars k → AllNamed vars (waits_code (waiter_at node x.own.waiters) (code.value x to) k)
    at_named node to rest =
        waits_named (waiter_at node x.own.waiters) (code.value x to) (found_below vars node x.own.waiters below) (values to) rest

    if_named : (kept : Bool) (node to : ℕ) {k : List WordInstr} → AllNamed vars k
        → AllNamed vars (kept_if x.table x.own.waiters (code.value x) kept node to k)
    if_named true node to rest = at_named node to rest
    if_named false node to rest = rest

    pub past_named : (line : Line) {k : List WordInstr} → AllNamed vars k → AllNamed vars (code.behind_line x line k)
    past_named (L.Apply to operation how ty of from) rest = if_named (gives_hooked x.table ty && waits how.how) how.node to rest
    past_named (L.Construct to how ty fields from) rest = if_named (is_hooked x.table ty && waits how.how) how.node to rest
    past_named (L.Constant to how ty pieces) rest = if_named (is_hooked x.table ty && constant_waits pieces how.how) how.node to rest
    past_named (L.Get to from how ty) rest = if_named (gives_hooked x.table ty && reads_kept how.how) how.node to rest
    past_named (L.Pass to from how ty) rest = if_named (gives_hooked x.table ty && waits how.how) how.node to rest
    past_named line rest = rest

    pub owning_named : ((p : ℕ) → IsBelow vars (code.declared x p).home) → ((p : ℕ) → variable_of (code.place x p false) < vars)
        → ((t : ℕ) → IsBelow vars (code.location x t).home) → (what : Owning) (from : List From)
        → IsBelow vars (code.operand_at (code.operands x from) 0).home → (label : ℕ) {k : List WordInstr} → AllNamed vars k
        → AllNamed vars (code.owning_code x what from label k)
    owning_named places variables locations (W.TakenUp node) from first label rest =
        leaves_named (waiter_at node x.own.waiters) (found_below vars node x.own.waiters below) rest
    owning_named places variables locations (W.Waits node) (F.Value t ∷ []) first label rest = at_named node t rest
    owning_named places variables locations (W.TemporaryEnds node ty) from first label {k} rest =
        by (waiter_at node x.own.waiters) (found_below vars node x.own.waiters below)
      where
        by : (o : Option Waiter) → VariableBelow vars o → AllNamed vars (code.waiter_ends_code x label ty o k)
        by None v = rest
        by (Some w) v = waiter_ends_named vars many x label ty w v rest
    owning_named places variables locations (W.PlaceEnds place ty) from first label rest =
        ends_named vars many x (holds_address (code.declared x place)) ty (code.declared x place).home (places place) rest
    owning_named places variables locations (W.PlaceCopies place ty) from first label rest =
        hook_named vars many x Copies ty (code.declared x place).home (code.operand_at (code.operands x from) 0).home (places place) first rest
    owning_named places variables locations (W.ResultGets place ty) from first label rest =
        hook_named vars many x (code.taking from 0) ty (code.declared x place).home (code.operand_at (code.operands x from) 0).home (places place) first rest
    owning_named places variables locations (W.PlaceStands p) (F.Place t ∷ []) first label rest =
        named.address vars many (variable_of (code.place x p false)) (code.location x t).home (variables p) (locations t) rest
    owning_named places variables locations what from first label rest = rest
