-- Behind a part of a body each cell that it wasn't given holds what it held.
use Rattle.std.proofs.Common.{◌≡◌, sym, ap, subst, ◌∙◌, ℕ, List, ◌∷◌, ◌++◌}
use Rattle.nim_program.specs.Scopes as scopes
use Rattle.nim_meaning.specs.Values.{Value, InBlock}
use Rattle.nim_meaning.specs.Marks.{Member, Distinct}
use Rattle.nim_meaning.specs.State.{World}
use Rattle.nim_meaning.specs.Acts.{Does}
use Rattle.nim_meaning.specs.Here.{Here}
use Rattle.holders.specs.Owned.{Apart, Keeps}
use Rattle.holders.specs.Territory.{Owner, Cells, a_cell, OtherThan, LieApart, ClearOf, Territory}
use Rattle.holders.specs.Running.{IsOutside, Passes}
use Rattle.holders.specs.Called.{LeftBy}
use Rattle.holders.specs.Asked.{Limits}
use Rattle.holders.specs.BodyParts.{part_region, Over, PartSo}
use Rattle.holders.specs.Holdings.{looked_through, held_in_cell, KeepsOthers}
use Rattle.holders.proofs.Bases.{loaded}
use Rattle.holders.proofs.Owning.{in_first, in_second, distinct_second, distinct_apart}
use Rattle.holders.proofs.Ending.{same_number}
use Rattle.holders.proofs.Moving.{clear_less}
use Rattle.holders.proofs.Working.{all_so}
use Rattle.holders.proofs.Coming.{comes_weaker}
use Rattle.holders.proofs.LookedThrough.{through_same}

-- the others of a territory, and what lies beside them
record Beside (o : Owner) (os : List Owner) (world : World) : Type 0 where
  others : Territory os world
  stands_in : Value
  value : Value
  mine : List ℕ
  cell : Keeps o.form o.at stands_in value mine world
  other : OtherThan o.at os
  off : Apart o.at.base others.blocks
  clear : ClearOf mine os
  both : (k : ℕ) → Member k mine → Member k others.blocks → ⊥

beside : {o : Owner} {os : List Owner} {world : World} → Territory (o ∷ os) world → Beside o os world
beside {o} {os} {world} t = by t.blocks t.cells t.distinct t.others t.clear
  where
    by : (bs : List ℕ) → Cells world (o ∷ os) bs → Distinct bs → LieApart (o ∷ os) → ClearOf bs (o ∷ os) → Beside o os world
    by _ (a_cell {w = w} {v = v} {bs = bs} {cs = cs} c rest) d others clear = record {
      others = record {
        blocks = cs;
        cells = rest;
        distinct = distinct_second bs cs d;
        others = others.1;
        clear = clear_less (bs ++ cs) cs os (λ k m. in_second k bs cs m) clear.1;
      };
      stands_in = w;
      value = v;
      mine = bs;
      cell = c;
      other = others.0;
      off = λ k e m. clear.0 k e (in_second k bs cs m);
      clear = clear_less (bs ++ cs) bs os (λ k m. in_first k bs cs m) clear.1;
      both = λ k m n. distinct_apart k bs cs d m n;
    }

module _ (here : Here) (first places : ℕ) (scope : scopes.Here) (limits : Limits) {A : Type 0} (ps ns : List ℕ) (act : Does A)
    (so : PartSo here first places scope limits ps ns act) where
  passed : {o : Owner} {os : List Owner} {world after : World} → IsOutside (part_region here.level ps ns) o.at.base → (b : Beside o os world) →
      Passes (part_region here.level ps ns) os b.others.blocks world after → held_in_cell after o ≡ held_in_cell world o
  passed {o} {os} {world} {after} out b p =
      let c = b.cell in
      let s = p.parts o.at b.value (record { whole = b.stands_in; at = c.at; is = c.is }) out b.other b.off in
      ap (looked_through after o.form) (loaded after o.at s.whole s.at.base ∙ s.is)
      ∙ (through_same world after (λ k x m is. p.bases (InBlock k) x is tt
      (all_so (λ q. Apart q.at.base b.mine) (λ q. InBlock k ≡ q.at.base → ⊥) os (λ q h e. h k (sym e) m) b.clear)
      (λ j e n. b.both k m (subst (λ i. Member i b.others.blocks) (sym (same_number k j e)) n))) c.has
      ∙ sym (ap (looked_through world o.form) (loaded world o.at b.stands_in c.at.base ∙ c.is)))

  pub others_kept : KeepsOthers here first places scope limits ps ns act
  others_kept o os nodes s begins sights =
      let b = beside begins.territory in
      let P : World → Type 0 = λ after. Over here first places scope limits ps ns os nodes b.others.blocks s.world after in
      let Same : World → Type 0 = λ after. held_in_cell after o ≡ held_in_cell s.world o in
      comes_weaker (λ x after. P after) (LeftBy P) (λ x after. Same after) (λ way after. Same after) (act s)
      (so os nodes s (record {
        territory = b.others;
        outside = begins.outside.1;
        active = begins.active;
        distinct = begins.distinct;
        free = begins.free;
        deepest = begins.deepest;
      }) sights)
      (λ x after e. passed begins.outside.0 b e.stage.runs.passes) (λ way after e. passed begins.outside.0 b e.1.stage.runs.passes)
