-- A caller goes on with what it gets: what is true then.
use Rattle.std.proofs.Common.{◌≡◌, ◌≢◌, ◌⊎◌, inl, inr, ℕ, suc, ◌*◌, ◌^◌, ◌<◌, ◌≤◌, List, Some, Bool, true, false, refl}
use Rattle.std.proofs.Common.{sym, ap, subst, ◌∙◌, arith}
use Rattle.std.specs.Prelude.{nat_eq}
use Rattle.std.proofs.lemmas.Bool.{cond-true, cond-false, eq-eqb, ne_eqb}
use Rattle.nim_meaning.specs.Values.{Value}
use Rattle.flat_code.specs.declared.block.BlockLine.{BlockLine}
use Rattle.flat_code.specs.Scene.{Temps, with_value, Returns as BlockReturns}
use Rattle.flat_code.specs.Shapes.{has_shape}
use Rattle.word_code.specs.Memory.{Memory}
use Rattle.word_code.specs.Words.{Vars, no_words, put, WordState}
use Rattle.word_code.proofs.ForCallers.{Runs}
use Rattle.word_lowering.specs.declared.homes.Home.TheVariants.{Variable}
use Rattle.word_lowering.specs.declared.homes.TheConstants.{FIRST, LEFT, OWN_FROM}
use Rattle.word_lowering.specs.Spots.{spot_of}
use Rattle.word_lowering.proofs.HeapKept.{SameHeap}
use Rattle.word_lowering.proofs.Keeping.{call, Edit, own_text, value_no_location, value_no_place, spot_held, beyond, value_no_waiting}
use Rattle.word_lowering.proofs.Lines.{Basis, all_procs, starts, IsGood, Settles, IsQuiet, none_past}
use Rattle.word_lowering.proofs.Moves.{single_word, same_first}
use Rattle.word_lowering.proofs.Options.{some_same}
use Rattle.word_lowering.proofs.OrdinalRuns.{put_other, put_here as put_same}
use Rattle.word_lowering.proofs.Related.{Both, Waits, low, MemoryGood, store_with}
use Rattle.word_lowering.proofs.Returned.{called, back, good_back, sites_left, linked_left, waits_lower, memory_left, good_left, heap_left, left_read}
use Rattle.word_lowering.proofs.ReturnLines.{place_high}
use Rattle.word_lowering.proofs.Scenes.{At, Name, of_value, house, IsNamed, IsThere, looked, IsItem, HasVariable}
use Rattle.word_lowering.proofs.Sites.{Site}
use Rattle.word_lowering.proofs.SitesApart.{variables_apart}
use Rattle.word_lowering.proofs.ValueFacts.{value_plain}
use Rattle.word_lowering.proofs.Items.{item_of}
use Rattle.word_lowering.proofs.ShapeFacts.{of_numbers, never}

-- ---- temporaries of which one gets a value

module _ (temps : Temps) (t : ℕ) (v : Value) where
  with_away : (u : ℕ) → u ≢ t → (with_value t temps v).values u ≡ temps.values u
  with_away u ne = cond-false (nat_eq u t) (Some v) (temps.values u) (ne_eqb u t ne)

  with_here : (u : Value) → (with_value t temps v).values t ≡ Some u → v ≡ u
  with_here u e = some_same v u (sym (cond-true (nat_eq t t) (Some v) (temps.values t) (eq-eqb t t refl)) ∙ e)

  with_still : (u : ℕ) (a : Value) → temps.values u ≡ Some a → (b : Value) × ((with_value t temps v).values u ≡ Some b)
  with_still u a e = by (nat_eq u t) refl
    where
      by : (b : Bool) → nat_eq u t ≡ b → (z : Value) × ((with_value t temps v).values u ≡ Some z)
      by true f = (v, cond-true (nat_eq u t) (Some v) (temps.values u) f)
      by false f = (a, cond-false (nat_eq u t) (Some v) (temps.values u) f ∙ e)

module _ (x : Basis) (h : Both) (w : Waits) (ws : List Waits) (line : BlockLine) (rest : List BlockLine)
    (y : IsGood x (starts (called x h w ws line rest) line rest)) (v : Value) where
  abbrev g : Both
  g = called x h w ws line rest

  abbrev temps_then : Temps
  temps_then = with_value w.to w.call.temps v

  abbrev pub go : Vars → Memory → (words : Vars) → (awaits : ℕ) → Both
  go = back x h w ws line rest y temps_then

  -- the caller comes there
  pub settles_back : IsQuiet x line → (work : ℕ) (vars : Vars) (m : Memory) (words : Vars) (awaits : ℕ) → IsGood x (go vars m words awaits) → (n : ℕ) → 0 < n
      → n ≤ 256 * work → Runs x.live (all_procs x) n (low x.table x.blocks (starts g line rest)) (low x.table x.blocks (go vars m words awaits))
      → Settles x (starts g line rest) rest (BlockReturns v work)
  settles_back plain work vars m words awaits good n some few runs = λ before.
      let r = runs.by x.fresh before in (
        (r.0, low x.table x.blocks (go vars m words awaits)),
        n,
        record { work = r.1.work; within = omega (arith, r.1.within, few); by = r.1.by },
        (
          inl (go vars m words awaits, good, r.0),
          ap (λ (u : WordState). (r.0, u)) (none_past x line rest plain (go vars m words awaits)),
          refl,
          λ waits. never (sym plain ∙ waits),
        ),
        inl some,
      )

  -- memory without the places of the call
  abbrev pub memory_back : Memory
  memory_back = memory_left x h w ws line rest y

  -- ---- the temporary has no place

  -- the place of no call
  abbrev above : Site
  above = record w.call.site { level = suc w.call.site.level }

  pub good_nothing : (IsNamed w.call.site (of_value w.to) → ⊥) → (a awaits : ℕ) → IsGood x (go (put w.call.vars FIRST a) memory_back no_words awaits)
  good_nothing unnamed a awaits =
      let same = same_first w.call.vars a in
      good_back x h w ws line rest y above (of_value 0) temps_then (put w.call.vars FIRST a) memory_back no_words awaits (good_left x h w ws line rest y)
      (heap_left x h w ws line rest y)
      (beyond (λ b n within read. left_read x h w ws line rest y b n (omega (arith, within)) read))
      (record {
        values = λ t there away. with_away w.call.temps w.to v t
            (other t (record { among = there.among; number = there.number; kind = there.kind }));
        places = λ t away. refl;
        texts = λ t n k named e away. with_away w.call.temps w.to v t (other t named);
        still = λ t u l k. with_still w.call.temps w.to v t u k;
        variables = λ f u there away home. same.others u (place_high x w.call.site y.linked.5.0 f u there home);
        left = same.left;
      })
      (λ e. absurd (omega (arith, e)))
      (λ c i e. let b = waits_lower x h w ws line rest y c i in omega (arith, b, e))
    where
      other : (t : ℕ) → IsNamed w.call.site (of_value t) → t ≢ w.to
      other t named e = unnamed (subst (λ u. IsNamed w.call.site (of_value u)) e named)

  -- ---- it gets the value

  -- whatever that has
  pub good_gets_item : IsThere w.call.site (of_value w.to) → (vars : Vars) (m : Memory) (words : Vars) (awaits : ℕ)
      → MemoryGood x.table x.blocks (sites_left x h w ws line rest y) x.first m → SameHeap h.memory m
      → Edit x.table x.blocks x.small (sites_left x h w ws line rest y) (linked_left x h w ws line rest y) w.call.site (of_value w.to) h.memory m
      → ((f : Name) (u : ℕ) → IsThere w.call.site f → f ≢ of_value w.to → HasVariable w.call.site f u → vars u ≡ w.call.vars u)
      → vars LEFT ≡ w.call.vars LEFT
      → IsItem x.table (store_with h m) (call w.call.site temps_then vars) (of_value w.to) v
      → IsGood x (go vars m words awaits)
  good_gets_item there vars m words awaits memory still edit variables left item_then =
      good_back x h w ws line rest y w.call.site (of_value w.to) temps_then vars m words awaits memory still edit
      (record {
        values = λ u is away. with_away w.call.temps w.to v u (other u away);
        places = λ u away. refl;
        texts = λ u n k named e away. with_away w.call.temps w.to v u (other u away);
        still = λ u a l e. with_still w.call.temps w.to v u a e;
        variables = λ f u is away home. variables f u is (other_name f away) home;
        left = left;
      })
      (λ e. record {
        item = λ u is k. subst (λ z. IsItem x.table (store_with h m) (call w.call.site temps_then vars) (of_value w.to) z)
            (with_here w.call.temps w.to v u k) item_then;
        text = λ u n k z f a b. own_text w.call.site (of_value u) n k (subst (IsThere w.call.site) (sym f) there) a;
        led = λ u where_it f named k. absurd (value_no_location w.to u (sym f));
        filled = λ n f k. absurd (value_no_place w.to n (sym f));
        waits = λ n f. absurd (value_no_waiting w.to n (sym f));
      })
      (λ c i e. let b = waits_lower x h w ws line rest y c i in omega (arith, b, e))
    where
      other : (u : ℕ) → (w.call.site.level ≢ w.call.site.level) ⊎ (of_value u ≢ of_value w.to) → u ≢ w.to
      other u (inl ne) e = ne refl
      other u (inr ne) e = ne (ap of_value e)

      other_name : (f : Name) → (w.call.site.level ≢ w.call.site.level) ⊎ (f ≢ of_value w.to) → f ≢ of_value w.to
      other_name f (inl ne) e = ne refl
      other_name f (inr ne) e = ne e

  module _ (there : IsThere w.call.site (of_value w.to)) (numbers : of_numbers (looked x.table w.call.site (of_value w.to)) ≡ true)
      (shaped : has_shape v (looked x.table w.call.site (of_value w.to)) ≡ true) where
    pub good_gets : (vars : Vars) (m : Memory) (words : Vars) (awaits : ℕ) → MemoryGood x.table x.blocks (sites_left x h w ws line rest y) x.first m
        → SameHeap h.memory m
        → Edit x.table x.blocks x.small (sites_left x h w ws line rest y) (linked_left x h w ws line rest y) w.call.site (of_value w.to) h.memory m
        → ((f : Name) (u : ℕ) → IsThere w.call.site f → f ≢ of_value w.to → HasVariable w.call.site f u → vars u ≡ w.call.vars u)
        → vars LEFT ≡ w.call.vars LEFT
        → At m w.call.site.base vars (spot_of (house w.call.site (of_value w.to))) v
        → IsGood x (go vars m words awaits)
    good_gets vars m words awaits memory still edit variables left at_place =
        good_gets_item there vars m words awaits memory still edit variables left
        (item_of x.table (store_with h m) (call w.call.site temps_then vars) (of_value w.to) v (record {
          there = there;
          numbers = numbers;
          plain = value_plain (house w.call.site (of_value w.to)) there.kind;
          shaped = shaped;
          at = at_place;
        }))

    -- in a variable
    pub good_word_back : (u : ℕ) → (house w.call.site (of_value w.to)).home ≡ Variable u → single_word v < 2 ^ 32 → (awaits : ℕ)
        → IsGood x (go (put w.call.vars u (single_word v)) memory_back no_words awaits)
    good_word_back u home small awaits =
        let high_u : OWN_FROM ≤ u = place_high x w.call.site y.linked.5.0 (of_value w.to) u there home in
        good_gets (put w.call.vars u (single_word v)) memory_back no_words awaits (good_left x h w ws line rest y) (heap_left x h w ws line rest y)
        (beyond (λ b n within read. left_read x h w ws line rest y b n (omega (arith, within)) read))
        (λ f n is ne k. put_other w.call.vars u (single_word v) n
        (variables_apart x.table x.blocks w.call.site (of_value w.to) f u n y.linked.5.0 there is (λ e. ne (sym e)) home k))
        (put_other w.call.vars u (single_word v) LEFT (λ e. absurd (omega (arith, high_u, e))))
        (subst (λ p. At memory_back w.call.site.base (put w.call.vars u (single_word v)) p v)
        (sym (spot_held (house w.call.site (of_value w.to)) u (value_plain (house w.call.site (of_value w.to)) there.kind) home))
        (put_same w.call.vars u (single_word v) small))
