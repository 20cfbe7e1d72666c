-- Flat code looks up paths, line by line as the meaning does it step by step.
use Rattle.std.proofs.Common.{◌≡◌, ℕ, ℤ, suc, ◌+◌, ◌<◌, ◌≤◌, Bool, true, false, List, [], ◌∷◌, Option, Some, None, refl, sym, ap, ◌∙◌, subst, arith}
use Rattle.std.specs.Prelude.{unsigned_abs, if◌then◌else◌}
use Rattle.nim_types.specs.Types.{Ty, Facts}
use Rattle.nim_program.specs.Program.{Literal, Expr, type_of, node_of, constant_in, Path, Variable, Fresh, Field, Element, Deref}
use Rattle.nim_program.specs.Folds.{if_constant}
use Rattle.nim_program.specs.Traps.{IndexOutOfBounds}
use Rattle.nim_program.specs.Ints.{inside}
use Rattle.nim_meaning.specs.Values.{Value, Made, literal_value, Number, Parts, Handle, Fixed, Ref, Resource, Gone}
use Rattle.nim_meaning.specs.Values.{Vacant, number_of, length_of, Standing, Waiting, Location, deeper, at_base}
use Rattle.nim_meaning.specs.State.{State, load, is_seen}
use Rattle.nim_meaning.specs.Acts.{branch as choose}
use Rattle.nim_meaning.specs.Here.{gives_hooked}
use Rattle.nim_meaning.specs.Deeds.{Deed, Gives, Looks, give, branch, unless_gone, sees, stop}
use Rattle.nim_meaning.specs.Places.{place_at, has_items, item_of, to_one, rooted, to_part, to_item, to_object, made, root_of}
use Rattle.nim_meaning.specs.Aims.{Aim, Root, PartOf, ItemOf, ObjectOf, fresh_root, find}
use Rattle.flat_code.specs.declared.line.Line.{Line}
use Rattle.flat_code.specs.declared.line.Line.TheVariants as L
use Rattle.flat_code.specs.Scene.{Where, Located, Within, Temps, with_place, location_at, led, Fails}
use Rattle.flat_code.specs.Lines.{using, using_number, level_at, fresh_at}
use Rattle.flat_code.specs.Lines as does
use Rattle.flattening.specs.Numbering.{width_at}
use Rattle.flattening.specs.ExprLines.{begin_line, find_lines}
use Rattle.flattening.specs.Formed.{Scope, PathFormed}
use Rattle.flattening.proofs.Runs.{Runs}
use Rattle.flattening.proofs.Openings.{Answering, answering_all}
use Rattle.flattening.proofs.Temps.{kept_none, kept_wide, kept_place, put_same}
use Rattle.flattening.proofs.Spots.{Spot, there, scene, Lands, after, further, performs_alone, performs_ticked}
use Rattle.flattening.proofs.Standing.{grounded, Stands}
use Rattle.flattening.proofs.Literals.{pieces_value}
use Rattle.flattening.proofs.Widths.{same_width, fresh_width, some_width}

-- ---- where a temporary leads

-- Temporary t leads to a location, as long as the values of its part, which are those of the numbers from lo to below hi, stay.
pub record Leads (lo hi t : ℕ) (location : Location) (now : Temps) : Type 0 where
  pub place : Where
  pub is : now.places t ≡ Some place
  pub at : (later : Temps) → ((i : ℕ) → lo ≤ i → i < hi → later.values i ≡ now.values i) → location_at later place ≡ location

-- now
pub leads_now : {lo hi t : ℕ} {location : Location} {now : Temps} (l : Leads lo hi t location now) → location_at now l.place ≡ location
leads_now {now = now} l = l.at now (λ i le less. refl)

-- and later, where its temporary and its values are as they were
pub leads_later : {lo hi t : ℕ} {location : Location} {now : Temps} (later : Temps) → later.places t ≡ now.places t →
    ((i : ℕ) → lo ≤ i → i < hi → later.values i ≡ now.values i) → Leads lo hi t location now → Leads lo hi t location later
leads_later later there same l =
    record { place = l.place; is = there ∙ l.is; at = λ last h. l.at last (λ i le less. h i le less ∙ same i le less) }

-- as part of more
pub leads_wide : {lo hi lo' hi' t : ℕ} {location : Location} {now : Temps} → lo ≤ lo' → hi' ≤ hi → Leads lo' hi' t location now → Leads lo hi t location now
leads_wide low high l =
    record { place = l.place; is = l.is; at = λ later h. l.at later (λ i le less. h i (omega (arith, low, le)) (omega (arith, high, less))) }

-- looking up sets no value
pub record Looked (lo hi t : ℕ) (temps : Temps) (location : Location) (now : Temps) : Type 0 where
  pub leads : Leads lo hi t location now
  pub values : (i : ℕ) → now.values i ≡ temps.values i

looked_from : {lo hi t : ℕ} {temps mid : Temps} {location : Location} {now : Temps} → ((i : ℕ) → mid.values i ≡ temps.values i) →
    Looked lo hi t mid location now → Looked lo hi t temps location now
looked_from same l = record { leads = l.leads; values = λ i. l.values i ∙ same i }

located : (lo hi t : ℕ) (temps : Temps) (location : Location) → Looked lo hi t temps location (with_place t temps (Located location))
located lo hi t temps location = record {
  leads = record { place = Located location; is = put_same temps.places t (Located location); at = λ later h. refl };
  values = λ i. refl;
}

led_part : (now : Temps) (place : Where) (location : Location) (i : ℕ) → location_at now place ≡ location →
    location_at now (led place (deeper location i)) ≡ deeper location i
led_part now (Located l) location i e = refl
led_part now (Within u path) location i e = subst (λ l. location_at now (led (Within u path) (deeper l i)) ≡ deeper l i) e refl

pub led_item : (now : Temps) (place : Where) (location : Location) (i : ℕ) → location_at now place ≡ location → (v : Value) →
    location_at now (led place (item_of v location i)) ≡ item_of v location i
led_item now (Located l) location i e (Handle n (Some k)) = refl
led_item now (Within u path) location i e (Handle n (Some k)) = refl
led_item now place location i e (Handle n None) = led_part now place location i e
led_item now place location i e (Number n) = led_part now place location i e
led_item now place location i e (Parts all) = led_part now place location i e
led_item now place location i e (Fixed text) = led_part now place location i e
led_item now place location i e (Ref object) = led_part now place location i e
led_item now place location i e (Resource all identity) = led_part now place location i e
led_item now place location i e (Gone v final) = led_part now place location i e
led_item now place location i e Vacant = led_part now place location i e

-- what the work of a path pays for, that begins at a name or a constant, and at a fresh value
abbrev pub find_gain : Path → ℕ
find_gain (Variable node ty place global) = 2
find_gain (Fresh value) = if_constant (constant_in value) 2 0
find_gain (Field node ty base field) = find_gain base
find_gain (Element node ty base index constant) = find_gain base
find_gain (Deref ty base) = find_gain base

abbrev pub aim_gain : Path → ℕ
aim_gain (Variable node ty place global) = 0
aim_gain (Fresh value) = if_constant (constant_in value) 0 2
aim_gain (Field node ty base field) = aim_gain base
aim_gain (Element node ty base index constant) = aim_gain base
aim_gain (Deref ty base) = aim_gain base

fresh_gains : (constant : Option Literal) → if_constant constant 0 2 + if_constant constant 2 0 ≡ 2
fresh_gains None = refl
fresh_gains (Some literal) = refl

pub gains : (path : Path) → aim_gain path + find_gain path ≡ 2
gains (Variable node ty place global) = omega arith
gains (Fresh value) = fresh_gains (constant_in value)
gains (Field node ty base field) = gains base
gains (Element node ty base index constant) = gains base
gains (Deref ty base) = gains base

module _ (c : Spot) (top : Bool) (room : ℕ → Type 0) (names : (proc place : ℕ) → Type 0) (Open : Scope) where
  abbrev types : List Ty
  types = c.fixed.program.types

  abbrev facts : Facts
  facts = c.fixed.program.facts

  -- ---- what a path needs before it is looked up

  -- what a path begins with that no name has: a constant where it stands; a value in the next temporary, which is the aim or waits at its node
  abbrev pub Begins : Option Literal → Expr → (t : ℕ) → Aim → Temps → Type 0
  Begins None value t aim now =
      (v : Value) × (now.values (suc t) ≡ Some v) × (aim ≡ fresh_root (gives_hooked facts (type_of value)) c.level (node_of value).number v)
  Begins (Some literal) value t aim now = aim ≡ Root (Made (literal_value literal))

  abbrev pub Aims : Path → (t : ℕ) → Aim → Temps → Type 0
  Aims (Variable node ty place global) t aim now = aim ≡ Root (Standing (level_at global c.level) place)
  Aims (Fresh value) t aim now = Begins (constant_in value) value t aim now
  Aims (Field node ty base field) t aim now = (a : Aim) × (aim ≡ PartOf a field) × Aims base (suc t) a now
  Aims (Element node ty base index constant) t aim now =
      (a : Aim) × (v : Value) × (now.values (suc t + width_at base) ≡ Some v) × (aim ≡ ItemOf a (number_of v)) × Aims base (suc t) a now
  Aims (Deref ty base) t aim now = (a : Aim) × (aim ≡ ObjectOf a) × Aims base (suc t) a now

  begins_kept : (constant : Option Literal) (value : Expr) (t : ℕ) (aim : Aim) (temps now : Temps) →
      ((i : ℕ) → t ≤ i → i < t + fresh_width constant value → now.values i ≡ temps.values i) → Begins constant value t aim temps →
      Begins constant value t aim now
  begins_kept None value t aim temps now h a = let w = some_width value in (a.0, h (suc t) (omega arith) (omega (arith, w)) ∙ a.1, a.2)
  begins_kept (Some literal) value t aim temps now h a = a

  pub aims_kept : (path : Path) (t : ℕ) (aim : Aim) (temps now : Temps) →
      ((i : ℕ) → t ≤ i → i < t + width_at path → now.values i ≡ temps.values i) → Aims path t aim temps → Aims path t aim now
  aims_kept (Variable node ty place global) t aim temps now h a = a
  aims_kept (Fresh value) t aim temps now h a = begins_kept (constant_in value) value t aim temps now h a
  aims_kept (Field node ty base field) t aim temps now h a =
      let w = same_width base in
      (a.0, a.1, aims_kept base (suc t) a.0 temps now (λ i le less. h i (omega (arith, le)) (omega (arith, less, w))) a.2)
  aims_kept (Element node ty base index constant) t aim temps now h a =
      let w = same_width base in let u = some_width index in (
        a.0,
        a.1,
        h (suc t + width_at base) (omega arith) (omega (arith, w, u)) ∙ a.2,
        a.3,
        aims_kept base (suc t) a.0 temps now (λ i le less. h i (omega (arith, le)) (omega (arith, less, w))) a.4,
      )
  aims_kept (Deref ty base) t aim temps now h a =
      let w = same_width base in
      (a.0, a.1, aims_kept base (suc t) a.0 temps now (λ i le less. h i (omega (arith, le)) (omega (arith, less, w))) a.2)

  -- ---- looking up

  abbrev pub FindFollows : (gain : ℕ) → Path → Type 0
  FindFollows gain path = (t : ℕ) (k : List Line) (temps : Temps) (aim : Aim) → Aims path t aim temps → (s : State) → Stands c room Open s.world →
      Runs c.fixed (Lands c k t (t + width_at path) temps s.world (Looked t (t + width_at path) t temps)) 0 gain
      (there c (find_lines types facts path t k) temps s.world) s.meter (find aim s)

  -- where a value is that waits, or that nobody owns
  value_begins : (value : Expr) (hooked : Bool) (t hi : ℕ) (k : List Line) (temps : Temps) (v : Value) → suc t < hi → temps.values (suc t) ≡ Some v →
      (s : State) →
      Runs c.fixed (Lands c k t hi temps s.world (Looked t hi t temps)) 0 0
      (there c (L.Fresh t (suc t) (if hooked then Some (node_of value).number else None) ∷ k) temps s.world) s.meter
      (find (fresh_root hooked c.level (node_of value).number v) s)
  value_begins value false t hi k temps v less has s =
      let u = suc t in
      performs_alone c (λ l. with_place t temps (led (Within u []) l)) (made v) s (omega arith)
      (record {
        leads = record {
          place = Within u [];
          is = put_same temps.places t (Within u []);
          at = λ later h. ap (λ o. location_at (record later { values = λ i. o }) (Within u [])) (h u (omega arith) (omega (arith, less)) ∙ has);
        };
        values = λ i. refl;
      })
      (λ l. kept_place t (led (Within u []) l) (omega arith) (omega (arith, less)) (kept_none t hi temps))
      (ap (λ o. using o (λ v. does.leads (scene c temps s.world) t (Within u []) (made v))) has)
  value_begins value true t hi k temps v less has s =
      let u = suc t in
      let l = at_base (Waiting c.level (node_of value).number) in
      performs_alone c (λ l. with_place t temps (led (Within u []) l)) (give l) s (omega arith) (located t hi t temps l)
      (λ l. kept_place t (led (Within u []) l) (omega arith) (omega (arith, less)) (kept_none t hi temps))
      (ap (λ o. using o (λ v. does.leads (scene c temps s.world) t (Within u []) (fresh_at (Some (node_of value).number) c.level v))) has)

  begin_follows : (constant : Option Literal) (value : Expr) (t : ℕ) (k : List Line) (temps : Temps) (aim : Aim) → Begins constant value t aim temps →
      (s : State) →
      Runs c.fixed (Lands c k t (t + fresh_width constant value) temps s.world (Looked t (t + fresh_width constant value) t temps)) 0 (if_constant constant 2 0)
      (there c (begin_line types facts constant value t ∷ k) temps s.world) s.meter (find aim s)
  begin_follows None value t k temps aim a s =
      let hi = t + fresh_width None value in
      let w = some_width value in
      let b = gives_hooked facts (type_of value) in
      subst (λ x. Runs c.fixed (Lands c k t hi temps s.world (Looked t hi t temps)) 0 0
      (there c (L.Fresh t (suc t) (if b then Some (node_of value).number else None) ∷ k) temps s.world) s.meter (find x s)) (sym a.2)
      (value_begins value b t hi k temps a.0 (omega (arith, w)) a.1 s)
  begin_follows (Some literal) value t k temps aim a s =
      let v = literal_value literal in
      subst (λ x. Runs c.fixed (Lands c k t (t + 1) temps s.world (Looked t (t + 1) t temps)) 0 2
      (there c (begin_line types facts (Some literal) value t ∷ k) temps s.world) s.meter (find x s)) (sym a)
      (performs_ticked c (λ l. with_place t temps (Located l)) (Looks (λ world. Gives (root_of (Made v) world))) s (omega arith)
      (λ world. located t (t + 1) t temps (root_of (Made v) world))
      (λ l. kept_place t (Located l) (omega arith) (omega arith) (kept_none t (t + 1) temps))
      (ap (λ v. does.leads (scene c temps s.world) t (Located (place_at 0 0)) (rooted (Made v))) (pieces_value literal)))

  object_answers : (Q : Location → Type 0) → ((l : Location) → Q l) → (l : Location) → Answering Q (to_object l)
  object_answers Q q l = answering_all Q q (to_object l)

  -- the element of a number, which is one of those that are there
  abbrev item_by : Location → ℤ → Deed Location
  item_by location z = sees location (λ world v. branch (inside z (length_of v)) (to_one v location (unsigned_abs z)) (stop IndexOutOfBounds))

  item_answers : (Q : Location → Type 0) (location : Location) (z : ℤ) → ((v : Value) → Q (item_of v location (unsigned_abs z))) →
      Answering Q (item_by location z)
  item_answers Q location z q =
      λ world. let v = load world location in
      seen_or (is_seen world location) _ (inside_or (inside z (length_of v)) (has_items v location.base) (item_of v location (unsigned_abs z)) (q v))
    where
      seen_or : (b : Bool) (deed : Deed Location) → Answering Q deed → Answering Q (unless_gone b deed)
      seen_or true deed a = a
      seen_or false deed a = tt

      inside_or : (b c : Bool) (item : Location) → Q item → Answering Q (branch b (unless_gone c (give item)) (stop IndexOutOfBounds))
      inside_or true true item q = q
      inside_or true false item q = tt
      inside_or false c item q = tt

  pub find_follows : (path : Path) → PathFormed (grounded c top room names) Open path → FindFollows (find_gain path) path
  find_follows (Variable node ty place global) f t k temps aim a s h =
      let level = level_at global c.level in
      subst (λ x. Runs c.fixed (Lands c k t (t + 1) temps s.world (Looked t (t + 1) t temps)) 0 2 (there c (L.Root t place global ∷ k) temps s.world) s.meter
      (find x s)) (sym a)
      (performs_ticked c (λ l. with_place t temps (Located l)) (Looks (λ world. Gives (root_of (Standing level place) world))) s (omega arith)
      (λ world. located t (t + 1) t temps (root_of (Standing level place) world))
      (λ l. kept_place t (Located l) (omega arith) (omega arith) (kept_none t (t + 1) temps))
      (ap (λ b. choose b (does.leads (scene c temps s.world) t (Located (place_at 0 0)) (rooted (Standing level place))) Fails) (h.open_is global place f)))
  find_follows (Fresh value) f t k temps aim a s h = begin_follows (constant_in value) value t k temps aim a s
  find_follows (Field node ty base field) f t k temps aim a s h =
      let hi = t + width_at (Field node ty base field) in
      let w = same_width base in
      let more = L.Part t (suc t) field ∷ k in
      subst (λ x. Runs c.fixed (Lands c k t hi temps s.world (Looked t hi t temps)) 0 (find_gain base)
      (there c (find_lines types facts base (suc t) more) temps s.world) s.meter (find x s)) (sym a.1)
      (after (find_gain base) (omega arith) (omega arith) (find_follows base f (suc t) more temps a.0 a.2 s h)
      (λ l b now looked kept since.
      let x = scene c now b.world in
      let place = looked.leads.place in
      further {lo' = t} {hi' = hi} (omega arith) (omega arith) (kept_wide (omega arith) (omega (arith, w)) kept) since
      (λ l last p k. looked_from {mid = now} looked.values p)
      (performs_ticked c (λ l. with_place t now (led place l)) (give (deeper l field)) b (omega arith)
      (record {
        leads = record {
          place = led place (deeper l field);
          is = put_same now.places t _;
          at = λ later same. led_part later place l field (looked.leads.at later (λ i le less. same i (omega (arith, le)) (omega (arith, less, w))));
        };
        values = λ i. refl;
      })
      (λ l. kept_place t (led place l) (omega arith) (omega arith) (kept_none t hi now))
      (ap (λ o. using o (λ place. does.leads x t place (to_part (location_at now place) field))) looked.leads.is
      ∙ ap (λ l. does.leads x t place (to_part l field)) (leads_now looked.leads)))))
  find_follows (Element node ty base index constant) f t k temps aim a s h =
      let hi = t + width_at (Element node ty base index constant) in
      let u = suc t + width_at base in
      let w = same_width base in
      let v = a.1 in
      let more = L.Item t (suc t) u ∷ k in
      subst (λ x. Runs c.fixed (Lands c k t hi temps s.world (Looked t hi t temps)) 0 (find_gain base)
      (there c (find_lines types facts base (suc t) more) temps s.world) s.meter (find x s)) (sym a.3)
      (after (find_gain base) (omega arith) (omega arith) (find_follows base f.0 (suc t) more temps a.0 a.4 s h)
      (λ l b now looked kept since.
      let x = scene c now b.world in
      let z = number_of v in
      let place = looked.leads.place in
      further {lo' = t} {hi' = hi} (omega arith) (omega arith) (kept_wide (omega arith) (omega (arith, w)) kept) since
      (λ l last p k. looked_from {mid = now} looked.values p)
      (performs_ticked c (λ l. with_place t now (led place l)) (item_by l z) b (omega arith)
      (item_answers (λ l. Looked t hi t now l (with_place t now (led place l))) l z (λ v. record {
        leads = record {
          place = led place (item_of v l (unsigned_abs z));
          is = put_same now.places t _;
          at = λ later same.
              led_item later place l (unsigned_abs z) (looked.leads.at later (λ i le less. same i (omega (arith, le)) (omega (arith, less, w)))) v;
        };
        values = λ i. refl;
      }))
      (λ l. kept_place t (led place l) (omega arith) (omega arith) (kept_none t hi now))
      (ap (λ o. using o (λ place. using_number now u (λ z. does.leads x t place (to_item (location_at now place) z)))) looked.leads.is
      ∙ (ap (λ l. using_number now u (λ z. does.leads x t place (to_item l z))) (leads_now looked.leads)
      ∙ ap (λ o. using o (λ v. does.leads x t place (to_item l (number_of v)))) (looked.values u ∙ a.2))))))
  find_follows (Deref ty base) f t k temps aim a s h =
      let hi = t + width_at (Deref ty base) in
      let w = same_width base in
      let more = L.Object t (suc t) ∷ k in
      subst (λ x. Runs c.fixed (Lands c k t hi temps s.world (Looked t hi t temps)) 0 (find_gain base)
      (there c (find_lines types facts base (suc t) more) temps s.world) s.meter (find x s)) (sym a.1)
      (after (find_gain base) (omega arith) (omega arith) (find_follows base f (suc t) more temps a.0 a.2 s h)
      (λ l b now looked kept since.
      let x = scene c now b.world in
      further {lo' = t} {hi' = hi} (omega arith) (omega arith) (kept_wide (omega arith) (omega (arith, w)) kept) since
      (λ l last p k. looked_from {mid = now} looked.values p)
      (performs_alone c (λ l. with_place t now (Located l)) (to_object l) b (omega arith)
      (object_answers (λ l. Looked t hi t now l (with_place t now (Located l))) (λ l. located t hi t now l) l)
      (λ l. kept_place t (Located l) (omega arith) (omega arith) (kept_none t hi now))
      (ap (λ o. using o (λ place. does.leads x t (Located (location_at now place)) (to_object (location_at now place)))) looked.leads.is
      ∙ ap (λ l. does.leads x t (Located l) (to_object l)) (leads_now looked.leads)))))
