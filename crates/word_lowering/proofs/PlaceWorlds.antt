-- A place of any call that has a value of its own gets another one: what is true of the world then.
use Rattle.std.proofs.Common.{◌≡◌, ◌≢◌, ◌⊎◌, inl, inr, ℕ, ◌+◌, ◌<◌, ◌≤◌, List, length, Some, sym, ap, subst, ◌∙◌, refl}
use Rattle.nim_meaning.specs.Values.{Value, Holds, Standing}
use Rattle.nim_meaning.specs.State.{World, with_slot, slot_at, frame_at, with_slot_of}
use Rattle.nim_meaning.specs.Places.{root_of, through_slot}
use Rattle.flat_code.specs.declared.block.BlockLine.{BlockLine}
use Rattle.word_lowering.proofs.Frames.{slot_here, slot_elsewhere, length_set, IsFrame}
use Rattle.word_lowering.proofs.Gets.{frame_of_site, frames_kept}
use Rattle.word_lowering.proofs.Keeping.{number_cases, Worlds, same_numbers, away_cases}
use Rattle.word_lowering.proofs.Lines.{Basis, IsGood, starts, all_sites}
use Rattle.word_lowering.proofs.Related.{Both, AllFrames}
use Rattle.word_lowering.proofs.Scenes.{of_place, Filled, IsThere}
use Rattle.word_lowering.proofs.Sites.{Site, AmongSites}
use Rattle.word_lowering.proofs.SitesApart.{site_at, one_level}
use Rattle.word_lowering.proofs.Temporaries.{waits_alike, once_alike, slot_alike}

module _ (x : Basis) (g : Both) (line : BlockLine) (rest : List BlockLine) (y : IsGood x (starts g line rest)) (lo : Site)
    (among : AmongSites lo (all_sites x g line rest y)) (number : ℕ) (there : IsThere lo (of_place number)) (old : Value)
    (slot : slot_at g.world lo.level number ≡ Some (Holds old)) (new : Value) where
  abbrev sites : List Site
  sites = all_sites x g line rest y

  abbrev pub put_world : World
  put_world = with_slot g.world lo.level number (Some (Holds new))

  frame : IsFrame g.world lo.level lo.body.proc.first lo.body.proc.span
  frame = frame_of_site x sites y.linked g.world sites lo y.frames among

  bounds : (lo.body.proc.first ≤ number) × (number < lo.body.proc.first + lo.body.proc.span)
  bounds = (site_at x.table x.blocks sites lo y.linked among).body.inside number (record { among = there.among; number = there.number; kind = there.kind })

  pub slot_new : slot_at put_world lo.level number ≡ Some (Holds new)
  slot_new = slot_here g.world lo.level number (Some (Holds new)) lo.body.proc.first lo.body.proc.span frame bounds.0 bounds.1

  pub slots_other : (s : Site) (m : ℕ) → AmongSites s sites → IsThere s (of_place m) → (s.level ≢ lo.level) ⊎ (of_place m ≢ of_place number)
      → slot_at put_world s.level m ≡ slot_at g.world s.level m
  slots_other s m i other away =
      slot_elsewhere g.world lo.level number (Some (Holds new)) s.level m lo.body.proc.first lo.body.proc.span frame bounds.0
      (elsewhere away (number_cases s.level lo.level))
    where
      elsewhere : (s.level ≢ lo.level) ⊎ (of_place m ≢ of_place number) → (s.level ≡ lo.level) ⊎ (s.level ≢ lo.level)
          → (s.level ≢ lo.level) ⊎ ((lo.body.proc.first ≤ m) × (m ≢ number))
      elsewhere away (inr ne) = inl ne
      elsewhere (inl ne) (inl e) = inl ne
      elsewhere (inr ne) (inl e) =
          let same : s ≡ lo = one_level x.table x.blocks (all_sites x g line rest y) s lo y.linked i among e in
          let o : IsThere lo (of_place m) = subst (λ (z : Site). IsThere z (of_place m)) same other in
          inr (
            ((site_at x.table x.blocks (all_sites x g line rest y) lo y.linked among).body.inside m
                (record { among = o.among; number = o.number; kind = o.kind })).0,
            λ k. ne (ap of_place k),
          )

  pub put_worlds : Worlds x.table x.blocks x.small sites y.linked lo (of_place number) g.world put_world
  put_worlds = record {
    slots = slots_other;
    more = λ s m i other h. more s m i other h
        (away_cases x.table x.blocks x.small (all_sites x g line rest y) y.linked lo (of_place number) s (of_place m));
    roots = λ s m i other h k. roots s m i other
        (away_cases x.table x.blocks x.small (all_sites x g line rest y) y.linked lo (of_place number) s (of_place m));
    waits = λ s node i a. waits_alike g.world put_world (slot_alike g.world lo.level number (Some (Holds new))) s.level node;
    once = λ s i h. once_alike g.world put_world (slot_alike g.world lo.level number (Some (Holds new))) s.level h;
    hand = refl;
  }
    where
      more : (s : Site) (m : ℕ) → AmongSites s (all_sites x g line rest y) → IsThere s (of_place m) → Filled g.world s.level m
          → ((s.level ≡ lo.level) × (of_place m ≡ of_place number)) ⊎ ((s.level ≢ lo.level) ⊎ (of_place m ≢ of_place number))
          → Filled put_world s.level m
      more s m i other h (inr away) = (h.0, slots_other s m i other away ∙ h.1)
      more s m i other h (inl same) = (
        Holds new,
        ap (λ l. slot_at put_world l m) same.0 ∙ ap (slot_at put_world lo.level) (same_numbers (of_place m) (of_place number) same.1) ∙ slot_new,
      )

      roots : (s : Site) (m : ℕ) → AmongSites s (all_sites x g line rest y) → IsThere s (of_place m)
          → ((s.level ≡ lo.level) × (of_place m ≡ of_place number)) ⊎ ((s.level ≢ lo.level) ⊎ (of_place m ≢ of_place number))
          → root_of (Standing s.level m) put_world ≡ root_of (Standing s.level m) g.world
      roots s m i other (inr away) = ap (through_slot (Standing s.level m)) (slots_other s m i other away)
      roots s m i other (inl same) =
          subst (λ k. root_of (Standing k m) put_world ≡ root_of (Standing k m) g.world) (sym same.0)
          (subst (λ k. root_of (Standing lo.level k) put_world ≡ root_of (Standing lo.level k) g.world)
          (sym (same_numbers (of_place m) (of_place number) same.1))
          (ap (through_slot (Standing lo.level number)) slot_new ∙ sym (ap (through_slot (Standing lo.level number)) slot)))

  pub put_frames : AllFrames x.table x.blocks put_world sites
  put_frames = frames_kept x sites y.linked g.world sites lo.level number (Some (Holds new)) y.frames

  pub put_levels : length put_world.frames ≡ length sites
  put_levels = length_set g.world.frames lo.level (with_slot_of (frame_at g.world lo.level) number (Some (Holds new))) ∙ y.levels
