-- A place that is declared gets a copy.
use Rattle.std.proofs.Common.{◌≡◌, refl, sym, subst, ◌∙◌, arith, ℕ, ◌+◌, ◌<◌, ◌≤◌, inl, inr, ◌⊎◌, true, List, [], ◌∷◌, ◌++◌}
use Rattle.nim_types.specs.Forms.{Form, form_of}
use Rattle.nim_program.specs.Program.{Declared}
use Rattle.nim_meaning.specs.Values.{Holds, Stands, Base, Standing, InBlock, Location, at_base, vacant}
use Rattle.nim_meaning.specs.Marks.{Member}
use Rattle.nim_meaning.specs.State.{World, State}
use Rattle.nim_meaning.specs.Acts.{Exit}
use Rattle.nim_meaning.specs.Deeds as deeds
use Rattle.nim_meaning.specs.Deeds.{Opens, changed}
use Rattle.nim_meaning.specs.Here.{Here}
use Rattle.nim_meaning.specs.Lifted.{walk, copying}
use Rattle.nim_meaning.specs.Places.{place_at}
use Rattle.nim_meaning.specs.Meaning.{place_copies, fill_from}
use Rattle.holders.specs.Owned.{whole, place_may}
use Rattle.holders.specs.Sure.{Sure, Comes}
use Rattle.holders.specs.Becoming.{taken_in}
use Rattle.holders.specs.Territory.{Owner, NoBaseOf}
use Rattle.holders.specs.Finding.{Read}
use Rattle.holders.specs.Handing.{UnderWay}
use Rattle.holders.specs.Running.{Region, IsOutside}
use Rattle.holders.specs.Staging.{Stage}
use Rattle.holders.proofs.Sure.{sure_then, sure_weaker}
use Rattle.holders.proofs.Owning.{has_stays}
use Rattle.holders.proofs.Copying.{Copied, copies}
use Rattle.holders.proofs.Moving.{cells_below, cells_clear}
use Rattle.holders.proofs.PlainRows.{none_clear}
use Rattle.holders.proofs.FrameChanges.{place_opened}
use Rattle.holders.proofs.Running.{no_less, Apace, territory_apace, with_cell, passes_apace, passes_then}
use Rattle.holders.proofs.Coming.{comes_carried}

module _ (r : Region) (gs : List Owner) (first places : ℕ) (nodes old : List ℕ) (start : World) where
  -- of what can be read, and isn't at the place itself
  pub place_gets : {ms : List Owner} {now : World} {f : Form} {l : Location} (n : ℕ) (s : Stage r ms gs first places nodes old start now) → first ≤ n →
      n < first + places → r.places n ≡ true → NoBaseOf (Standing r.level n) (ms ++ gs) → Read f l now → (l.base ≡ Standing r.level n → ⊥) →
      Sure (place_copies f r.level n l)
      (λ u after. Stage r (record { form = f; at = at_base (Standing r.level n) } ∷ ms) gs first places nodes old start after) now
  place_gets {ms} {now} {f} {l} n s le less mine off source other =
      let filled = place_opened now r.level first places n nodes (Holds (vacant f)) s.active le less in
      let opened = changed (Opens r.level n (Holds (vacant f))) now in
      let own : Owner = record { form = f; at = at_base (Standing r.level n) } in
      sure_then (deeds.does (Opens r.level n (Holds (vacant f)))) (λ u. walk copying f (place_at r.level n) l) (λ u after. after ≡ opened)
      (λ u after. Stage r (own ∷ ms) gs first places nodes old start after) now refl
      (λ u after e. subst (λ w. Sure (walk copying f (place_at r.level n) l) (λ v last. Stage r (own ∷ ms) gs first places nodes old start last) w) (sym e)
      (sure_weaker (walk copying f (place_at r.level n) l) (λ v last. Copied f (place_at r.level n) (vacant f) opened last)
      (λ v last. Stage r (own ∷ ms) gs first places nodes old start last) opened
      (copies f (place_at r.level n) l (vacant f) source.stands_in source.value source.blocks opened
      (record { base = filled.holds (vacant f) refl; part = whole; may = place_may }) refl
      (record { base = filled.elsewhere l.base source.stands_in source.from.base other; there = source.from.there; is = source.from.is })
      (has_stays now opened (λ k x m is. filled.elsewhere (InBlock k) x is (no_place k)) source.has) other (λ k e m. no_place k (sym e)))
      (λ v last t. stands last t)))
    where
      no_place : (k : ℕ) → InBlock k ≡ Standing r.level n → ⊥
      no_place k e = subst is_block e tt
        where
          is_block : Base → Type 0
          is_block (InBlock k) = Unit {0}
          is_block b = ⊥

      inside : IsOutside r (Standing r.level n) → ⊥
      inside (inl less) = omega (arith, less)
      inside (inr w) = w.1 mine

      stands : (last : World) → Copied f (place_at r.level n) (vacant f) (changed (Opens r.level n (Holds (vacant f))) now) last →
          Stage r (record { form = f; at = at_base (Standing r.level n) } ∷ ms) gs first places nodes old start last
      stands last t =
          let filled = place_opened now r.level first places n nodes (Holds (vacant f)) s.active le less in
          let a : Apace (Standing r.level n) now last = record {
            bases = λ c x h d. t.elsewhere c x (filled.elsewhere c x h d) d;
            heap = t.grows;
            hand = t.once.stays.hand;
          } in
          let there = territory_apace a no_place off s.runs.territory in
          let under : UnderWay f t.now (ms ++ gs) s.runs.territory.blocks last = record {
            given = t.blocks;
            has = t.has;
            distinct = t.distinct;
            strange = λ k m q. too_far k (cells_below (ms ++ gs) s.runs.territory.blocks s.runs.territory.cells k q) (t.fresh k m);
            clear = cells_clear (ms ++ gs) s.runs.territory.blocks [] [] t.blocks s.runs.territory.cells (none_clear (ms ++ gs)) (none_clear (ms ++ gs))
                (λ k m. inr (inr (t.fresh k m)));
          } in
          let c = with_cell there (Standing r.level n) under t.is place_may off (λ k e. no_place k (sym e)) in
          record {
            runs = record {
              territory = c.territory;
              own = (inside, s.runs.own);
              came = λ k m. from k (c.from k m) (λ q. t.fresh k q);
              loses = λ k. omega (arith, s.runs.loses k, t.loses k, c.sum k);
              passes = passes_then s.runs.passes s.runs.came (passes_apace r gs inside a
                  (λ i m to h out. t.once.stays.frames.names i m to (filled.names i m to h (λ e q. another i m e q out)))
                  (λ i f p ns less h. t.once.stays.frames.active i f p ns (filled.active i f p ns h)) (t.once.stays.frames.count ∙ filled.count));
            };
            active = t.once.stays.frames.active r.level first places nodes (filled.active r.level first places nodes s.active);
          }
        where
          too_far : (k : ℕ) → k < taken_in now → taken_in now ≤ k → ⊥
          too_far k less le = omega (arith, less, le)

          later : (k : ℕ) → taken_in now ≤ k → taken_in start ≤ k
          later k le = omega (arith, le, s.runs.passes.grows)

          from : (k : ℕ) → Member k t.blocks ⊎ Member k s.runs.territory.blocks → (Member k t.blocks → taken_in now ≤ k) →
              Member k old ⊎ (Member k [] ⊎ (taken_in start ≤ k))
          from k (inl m) fresh = inr (inr (later k (fresh m)))
          from k (inr m) fresh = s.runs.came k m

          another : (i m : ℕ) → i ≡ r.level → m ≡ n → (i < r.level) ⊎ ((i ≡ r.level) × (r.places m ≡ true → ⊥)) → ⊥
          another i m e q (inl less) = omega (arith, e, less)
          another i m e q (inr w) = w.1 (subst (λ j. r.places j ≡ true) (sym q) mine)

  pub fill_from_comes : {ms : List Owner} {l : Location} (here : Here) (place : Declared) (X : Exit → World → Type 0) → here.level ≡ r.level → (s : State) →
      Stage r ms gs first places nodes old start s.world → first ≤ place.number → place.number < first + places → r.places place.number ≡ true →
      NoBaseOf (Standing r.level place.number) (ms ++ gs) → Read (form_of here.facts place.of) l s.world → (l.base ≡ Standing r.level place.number → ⊥) →
      Comes (λ u after. Stage r (record { form = form_of here.facts place.of; at = at_base (Standing r.level place.number) } ∷ ms) gs first places nodes old
      start after) X (fill_from here place l s)
  fill_from_comes {ms} {l} here place X level_is s h le less mine off source other =
      let f = form_of here.facts place.of in
      let Q : Unit {0} → World → Type 0 =
      λ u after. Stage r (record { form = f; at = at_base (Standing r.level place.number) } ∷ ms) gs first places nodes old start after in
      comes_carried Q X (place_copies f here.level place.number l) s
      (subst (λ i. Sure (place_copies f i place.number l) Q s.world) (sym level_is) (place_gets place.number h le less mine off source other))

-- a place stands for a location
pub stage_named : {r : Region} {gs ms : List Owner} {first places : ℕ} {nodes old : List ℕ} {start now : World} (n : ℕ) (l : Location)
    (s : Stage r ms gs first places nodes old start now) → first ≤ n → n < first + places → r.places n ≡ true → NoBaseOf (Standing r.level n) (ms ++ gs) →
    Stage r ms gs first places nodes old start (changed (Opens r.level n (Stands l)) now)
stage_named {r} {gs} {ms} {first} {places} {nodes} {old} {start} {now} n l s le less mine off =
    let filled = place_opened now r.level first places n nodes (Stands l) s.active le less in
    let a : Apace (Standing r.level n) now (changed (Opens r.level n (Stands l)) now) =
    record { bases = filled.elsewhere; heap = no_less (taken_in now); hand = refl } in
    record {
      runs = record {
        territory = territory_apace a no_place off s.runs.territory;
        own = s.runs.own;
        came = s.runs.came;
        loses = λ k. omega (arith, s.runs.loses k);
        passes = passes_then s.runs.passes s.runs.came (passes_apace r gs inside a
            (λ i m to h out. filled.names i m to h (λ e q. another i m e q out)) (λ i f p ns below h. filled.active i f p ns h) filled.count);
      };
      active = filled.active r.level first places nodes s.active;
    }
  where
    no_place : (k : ℕ) → InBlock k ≡ Standing r.level n → ⊥
    no_place k e = subst is_block e tt
      where
        is_block : Base → Type 0
        is_block (InBlock k) = Unit {0}
        is_block b = ⊥

    inside : IsOutside r (Standing r.level n) → ⊥
    inside (inl below) = omega (arith, below)
    inside (inr w) = w.1 mine

    another : (i m : ℕ) → i ≡ r.level → m ≡ n → (i < r.level) ⊎ ((i ≡ r.level) × (r.places m ≡ true → ⊥)) → ⊥
    another i m e q (inl below) = omega (arith, e, below)
    another i m e q (inr w) = w.1 (subst (λ j. r.places j ≡ true) (sym q) mine)
