-- Where a hook reads from: the location of a temporary that is in a place, in a block, or in what waits, if anything does, or in a constant with texts or
-- sequences; what has hooks leads into no other constant.
use Rattle.std.proofs.Common.{◌≡◌, ◌⊎◌, inl, inr, ℕ, ◌+◌, List, Bool, true, false, Option, Some, None}
use Rattle.std.proofs.Common.{refl, sym, ap, subst, ◌∙◌, arith}
use Rattle.nim_types.specs.Table.{IsTable}
use Rattle.nim_meaning.specs.Values.{Holds, Lends, Location, Slot, Stands, Value, Waiting}
use Rattle.nim_meaning.specs.Places.{may_change}
use Rattle.nim_meaning.specs.State.{temporary_at}
use Rattle.flat_code.specs.declared.block.BlockLine.{BlockLine}
use Rattle.flat_code.specs.Scene.{Located, Temps, Where, Within, location_at}
use Rattle.flat_code.specs.Shapes.{Shape}
use Rattle.word_lowering.specs.Stored.{HaveForms}
use Rattle.word_lowering.proofs.BaseValues.{IsOwn}
use Rattle.word_lowering.proofs.GoodHomes.{HomeOf, held_of, home_at}
use Rattle.word_lowering.proofs.GoodLeads.{call_of}
use Rattle.word_lowering.proofs.GoneWalks.{IsUnwaited}
use Rattle.word_lowering.proofs.HookCalls.{IsArgument, around, block_argument, place_argument}
use Rattle.word_lowering.proofs.HookSurroundings.{shape}
use Rattle.word_lowering.proofs.HooksGood.{home_within}
use Rattle.word_lowering.proofs.Keeping.{AmongCalls, waiting_inside}
use Rattle.word_lowering.proofs.Lines.{Basis, IsGood, starts}
use Rattle.word_lowering.proofs.Related.{Both, calls_of, sites_of, store_of}
use Rattle.word_lowering.proofs.Scenes.{Call, FromLinked, FromWaiting, IsThere, Leads, LeadsHere, Says, SaysAt, address_of, house, looked}
use Rattle.word_lowering.proofs.Scenes.{of_value, of_waiting}
use Rattle.word_lowering.proofs.ShapeFacts.{never, of_numbers}
use Rattle.word_lowering.proofs.ShapePaths.{PathTo, path_numbers, path_within}
use Rattle.word_lowering.proofs.Sites.{Site}

module _ (x : Basis) (g : Both) (line : BlockLine) (rest : List BlockLine) (y : IsGood x (starts g line rest)) (is_table : IsTable x.table)
    (have : HaveForms x.table) (ty : ℕ) (hooked : of_numbers (shape (around x g line rest y is_table have) ty) ≡ false) where
  abbrev now : Both
  now = starts g line rest

  abbrev sites : List Site
  sites = sites_of now

  abbrev t : Shape
  t = shape (around x g line rest y is_table have) ty

  -- ---- in what waits

  waited_argument : (own : Bool) (l : Location) (a : ℕ) (f : FromWaiting x.table sites l a t) (c : Call) → AmongCalls c (calls_of now) → c.site ≡ f.site
      → (v : Value) → temporary_at g.world c.site.level f.node ≡ Some (Holds v) → IsArgument x g line rest y is_table have own l a ty
  waited_argument own l a f c i e v has =
      let there : IsThere c.site (of_waiting f.node) = subst (λ (s : Site). IsThere s (of_waiting f.node)) (sym e) f.there in
      let way : PathTo (looked x.table c.site (of_waiting f.node)) l.path f.offset t
      = subst (λ (s : Site). PathTo (looked x.table s (of_waiting f.node)) l.path f.offset t) (sym e) f.path in
      let based : l.base ≡ Waiting c.site.level f.node = f.base ∙ ap (λ (s : Site). Waiting s.level f.node) (sym e) in
      let home : HomeOf x now (home_at x now c (of_waiting f.node) v) = record {
        call = c;
        among = i;
        name = of_waiting f.node;
        there = there;
        inside = waiting_inside c.site f.node there;
        value = v;
        has = has;
        is = refl;
      } in
      let inside = path_within (looked x.table c.site (of_waiting f.node)) l.path f.offset t way in
      let at : a ≡ address_of c.site.base (house c.site (of_waiting f.node)).home + f.offset
      = f.address ∙ ap (λ (s : Site). address_of s.base (house s (of_waiting f.node)).home + f.offset) (sym e) in
      let under = (home_within x g line rest y (home_at x now c (of_waiting f.node) v) home).under in
      let most = y.memory.sized.stack_most in let places = y.memory.places in
      record {
        at = a;
        word = omega (arith, under, inside, at, most, places);
        led = inl (record {
          home = home_at x now c (of_waiting f.node) v;
          among = inl (record { home = home; hooked = by (of_numbers (looked x.table c.site (of_waiting f.node))) refl way });
          base = based;
          offset = f.offset;
          way = way;
          address = at;
          owned = λ is. subst IsOwn (sym based) tt;
        });
      }
    where
      by : (b : Bool) → of_numbers (looked x.table c.site (of_waiting f.node)) ≡ b → PathTo (looked x.table c.site (of_waiting f.node)) l.path f.offset t
          → of_numbers (looked x.table c.site (of_waiting f.node)) ≡ false
      by false e way = e
      by true e way = never (sym hooked ∙ path_numbers (looked x.table c.site (of_waiting f.node)) l.path f.offset t e way)

  waiting_argument : (own : Bool) (l : Location) (a : ℕ) → FromWaiting x.table sites l a t
      → IsArgument x g line rest y is_table have own l a ty ⊎ IsUnwaited g.world l
  waiting_argument own l a f =
      let c = call_of (calls_of now) f.site f.among in by c.0 c.1 c.2 (temporary_at g.world c.0.site.level f.node) refl
    where
      says : (c : Call) → AmongCalls c (calls_of now) → (e : c.site ≡ f.site) → (o : Option Slot) → temporary_at g.world c.site.level f.node ≡ o
          → Says o (c.vars (subst (λ (s : Site). IsThere s (of_waiting f.node)) (sym e) f.there).among.0.variable)
          (c.site.base + (subst (λ (s : Site). IsThere s (of_waiting f.node)) (sym e) f.there).among.0.at)
      says c i e o has =
          let there : IsThere c.site (of_waiting f.node) = subst (λ (s : Site). IsThere s (of_waiting f.node)) (sym e) f.there in
          subst (λ o. Says o (c.vars there.among.0.variable) (c.site.base + there.among.0.at)) has
          (subst (λ o. SaysAt o (temporary_at g.world c.site.level f.node) c.site.base c.vars) there.among.1
          ((held_of x (store_of g) g.world (calls_of now) c y.hold i).1.waits f.node))

      by : (c : Call) → AmongCalls c (calls_of now) → c.site ≡ f.site → (o : Option Slot) → temporary_at g.world c.site.level f.node ≡ o
          → IsArgument x g line rest y is_table have own l a ty ⊎ IsUnwaited g.world l
      by c i e None has =
          inr (record {
            level = c.site.level;
            node = f.node;
            base = f.base ∙ ap (λ (s : Site). Waiting s.level f.node) (sym e);
            none = has;
          })
      by c i e (Some (Holds v)) has = inl (waited_argument own l a f c i e v has)
      by c i e (Some (Stands other)) has = absurd (says c i e (Some (Stands other)) has)
      by c i e (Some (Lends v from seen)) has = absurd (says c i e (Some (Lends v from seen)) has)

  -- ---- wherever it is

  -- what may be put there is part of no constant
  abbrev pub IsChangeable : (own : Bool) → Location → Type 0
  IsChangeable true l = may_change l.base ≡ true
  IsChangeable false l = Unit {0}

  pub linked_argument : (own : Bool) (l : Location) (a : ℕ) → IsChangeable own l → FromLinked g.ground l a t
      → IsArgument x g line rest y is_table have own l a ty
  linked_argument own l a may f = record {
    at = a;
    word = (let near = f.near in omega (arith, near));
    led = inr (inr (record { root = f.value; base = f.base; fixed = f.stands; lent = by own may }));
  }
    where
      by : (own : Bool) → IsChangeable own l → own ≡ false
      by false may = refl
      by true may = never (sym (ap may_change f.base) ∙ may)

  pub source_argument : (own : Bool) (l : Location) (a : ℕ) → IsChangeable own l → LeadsHere x.table x.blocks sites g.ground g.world l a t
      → IsArgument x g line rest y is_table have own l a ty ⊎ IsUnwaited g.world l
  source_argument own l a may (inl f) = inl (place_argument x g line rest y is_table have own l a ty f hooked)
  source_argument own l a may (inr (inl (inl f))) = never (sym hooked ∙ path_numbers f.shape l.path f.offset t f.numbers f.path)
  source_argument own l a may (inr (inl (inr f))) = inl (linked_argument own l a may f)
  source_argument own l a may (inr (inr (inl f))) = inl (block_argument x g line rest y is_table have own l a ty f)
  source_argument own l a may (inr (inr (inr f))) = waiting_argument own l a f

  -- where a temporary leads: not into a value, which has no hooks
  pub led_argument : (s : Site) (temps : Temps) (own : Bool) (there : Where) (a : ℕ) → IsChangeable own (location_at temps there)
      → Leads x.table x.blocks sites g.ground g.world s temps there a t
      → IsArgument x g line rest y is_table have own (location_at temps there) a ty ⊎ IsUnwaited g.world (location_at temps there)
  led_argument s temps own (Located l) a may f = source_argument own l a may f
  led_argument s temps own (Within u path) a may f =
      never (sym hooked ∙ path_numbers (looked x.table s (of_value u)) path f.offset t (f.lasting f.there) f.leads)
