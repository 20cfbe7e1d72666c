-- The places of operands are looked up; and what operands are is there.
use Rattle.std.proofs.Common.{◌≡◌, refl, sym, ap₂, subst, ◌∙◌, ℕ, suc, Bool, true, List, ◌∷◌, ◌++◌}
use Rattle.std.specs.Prelude.{◌&&◌}
use Rattle.nim_program.specs.declared.operation.Use.{Use}
use Rattle.nim_program.specs.declared.operation.Use.TheVariants.{Held}
use Rattle.nim_program.specs.Program.{Args, ByValue, ByPath, type_at, node_of}
use Rattle.nim_program.specs.Scopes as scopes
use Rattle.nim_meaning.specs.Values.{Waiting, Location, at_base, Operand, Given, At}
use Rattle.nim_meaning.specs.State.{World, State, is_seen}
use Rattle.nim_meaning.specs.Texts.{are_seen}
use Rattle.nim_meaning.specs.Acts.{give, ◌>>=◌}
use Rattle.nim_meaning.specs.Here.{Here, form_for}
use Rattle.nim_meaning.specs.Aims.{Ready, find, settle}
use Rattle.holders.specs.Owned.{Full, Has}
use Rattle.holders.specs.Sure.{Comes}
use Rattle.holders.specs.Territory.{Owner, Cells, a_cell, Territory, Among}
use Rattle.holders.specs.Finding.{Found, steps_of}
use Rattle.holders.proofs.Guards.{has_whole, read_there, seen_from}
use Rattle.holders.proofs.Working.{among_first, works_front}
use Rattle.holders.proofs.PlainRows.{read_found}
use Rattle.holders.proofs.Operations.{seen_read}
use Rattle.holders.proofs.Finding.{finds}
use Rattle.holders.proofs.Coming.{comes_then, comes_answered}
use Rattle.holders.specs.Asked.{Limits, may_write}
use Rattle.holders.specs.Evaluating.{Scene, Hand, empty, holds, Readied, none_ready, bare_ready, held_ready, lent_ready, aim_ready}
use Rattle.holders.specs.Evaluating.{seen_ready, copy_ready, hand_ready, Settled, none_settled, bare, held, lent, found, seen, copied, in_hand}
use Rattle.holders.specs.Claimed.{NoExit}
use Rattle.holders.proofs.OperandCopies.{aim_here}

module _ (here : Here) (scope : scopes.Here) (limits : Limits) (root : (global : Bool) → ℕ → ℕ) (uses : (position : ℕ) → Use) (ms os : List Owner)
    (world : World) (scene : Scene here scope limits root os world) (t : Territory (ms ++ os) world) where
  abbrev SettledSo : Hand → Args → ℕ → List Operand → World → Type 0
  SettledSo h args i xs now = (now ≡ world) × Settled here scope limits root uses ms os world h args i xs

  pub settle_so : {h : Hand} {args : Args} {i : ℕ} {xs : List Ready} → Readied here scope limits root uses ms os world h args i xs → (s : State) →
      s.world ≡ world → Comes (SettledSo h args i) NoExit (settle xs s)
  settle_so none_ready s e = (e, none_settled)
  settle_so {h} {i = i} (bare_ready {value = value} {rest = rest} {v = v} {xs = xs} which b more) s e =
      comes_then (settle xs) (λ ys. give (Given v ∷ ys)) (SettledSo h rest (suc i)) (SettledSo h (ByValue value rest) i) NoExit s (settle_so more s e)
      (λ ys now p. (p.0, bare which b p.1))
  settle_so {h} {i = i} (held_ready {value = value} {rest = rest} {v = v} {xs = xs} purpose hooked a base more) s e =
      comes_then (settle xs) (λ ys. give (Given v ∷ ys)) (SettledSo h rest (suc i)) (SettledSo h (ByValue value rest) i) NoExit s (settle_so more s e)
      (λ ys now p. (p.0, held purpose hooked a base p.1))
  settle_so {h} {i = i} (lent_ready {value = value} {rest = rest} {xs = xs} purpose hooked own a more) s e =
      comes_then (settle xs) (λ ys. give (At (at_base (Waiting here.level (node_of value).number)) ∷ ys)) (SettledSo h rest (suc i))
      (SettledSo h (ByValue value rest) i) NoExit s (settle_so more s e) (λ ys now p. (p.0, lent purpose hooked own a p.1))
  settle_so {h} {i = i} (aim_ready {path = path} {rest = rest} {aim = aim} {xs = xs} a more) s e =
      let f = form_for here.facts (type_at path) in
      let c = aim_here {ms = ms} (subst (λ w. Scene here scope limits root os w) (sym e) scene) a in
      let there = subst (λ w. Territory (ms ++ os) w) (sym e) t in
      let Is : Location → World → Type 0 = λ l after. (after ≡ s.world)
      × Found (ms ++ os) s.world (may_write limits path) c.position (steps_of aim) f l in
      comes_then (find aim) (λ l. settle xs >>= (λ ys. give (At l ∷ ys))) Is (SettledSo h (ByPath path rest) i) NoExit s
      (comes_answered Is NoExit (find aim s) (finds s there c.aims))
      (λ l mid q. comes_then (settle xs) (λ ys. give (At l ∷ ys)) (SettledSo h rest (suc i)) (SettledSo h (ByPath path rest) i) NoExit mid
      (settle_so more mid (q.0 ∙ e))
      (λ ys now p. (
        p.0,
        found {steps = steps_of aim} (subst (λ w. Found (ms ++ os) w (may_write limits path) c.position (steps_of aim) f l) e q.1) c.written p.1,
      )))
  settle_so (seen_ready purpose h) s e = (e, seen purpose h)
  settle_so (copy_ready purpose hooked f) s e = (e, copied purpose hooked f)
  settle_so (hand_ready purpose hooked) s e = (e, in_hand purpose hooked)

-- ---- what operands are is there

-- one of the cells is there
pub cell_seen : {ms : List Owner} (os : List Owner) {o : Owner} {world : World} → Territory (ms ++ os) world → Among ms o → is_seen world o.at ≡ true
cell_seen {ms} os {o} {world} t i =
    let w = works_front (among_first os i) t in by w.territory.blocks w.territory.cells
  where
    by : {ps : List Owner} (bs : List ℕ) → Cells world (o ∷ ps) bs → is_seen world o.at ≡ true
    by _ (a_cell {w = w} c rest) = seen_from (read_there c.at c.is) tt c.has

-- a value that is under way, or that none waits for
abbrev pub HandThere : World → Hand → Type 0
HandThere world empty = Unit {0}
HandThere world (holds f v) = (bs : List ℕ) × Has world Full f v bs

module _ (here : Here) (scope : scopes.Here) (limits : Limits) (root : (global : Bool) → ℕ → ℕ) (uses : (position : ℕ) → Use) (ms os : List Owner)
    (world : World) (t : Territory (ms ++ os) world) where
  -- of an operation that takes none from where it waits
  pub all_are_seen : ((j : ℕ) → uses j ≡ Held → ⊥) → {h : Hand} {args : Args} {i : ℕ} {xs : List Operand} → HandThere world h →
      Settled here scope limits root uses ms os world h args i xs → are_seen world xs ≡ true
  all_are_seen none hand none_settled = refl
  all_are_seen none hand (bare which b more) = ap₂ (λ m n. m && n) (has_whole tt (b world)) (all_are_seen none hand more)
  all_are_seen none hand (held {i = i} purpose hooked a base more) = absurd (none i purpose)
  all_are_seen none hand (lent purpose hooked own a more) = ap₂ (λ m n. m && n) (cell_seen os t a) (all_are_seen none hand more)
  all_are_seen none hand (found f written more) = ap₂ (λ m n. m && n) (seen_read (read_found t f)) (all_are_seen none hand more)
  all_are_seen none hand (seen purpose h) = ap₂ (λ m n. m && n) (has_whole tt h) refl
  all_are_seen none hand (copied purpose hooked f) = ap₂ (λ m n. m && n) (seen_read (read_found t f)) refl
  all_are_seen none hand (in_hand purpose hooked) = ap₂ (λ m n. m && n) (has_whole tt hand.1) refl
