-- What has no blocks is copied to a cell or a character, and handed over to it.
use Rattle.std.proofs.Common.{◌≡◌, refl, sym, subst, ℕ, false, List, [], length}
use Rattle.std.proofs.lemmas.Bool.{false≢true}
use Rattle.nim_types.specs.Forms.{Form, plain, reference, block, elements, row, parts, resource, wrapped, hooked}
use Rattle.nim_meaning.specs.Values.{Value, bytes, put_part, InBlock, InHand, Location, Given, At as Place}
use Rattle.nim_meaning.specs.State.{World, pushed, popped}
use Rattle.nim_meaning.specs.Deeds.{Pops, does, costs, branch, sets}
use Rattle.nim_meaning.specs.Lifted.{Walk, walk, walk_all, each_part, sinking, assigning, bits, in_hand, assigned}
use Rattle.holders.specs.Owned.{IsBase, From, Full, Constant, Has, Keeps}
use Rattle.holders.specs.Sure.{Sure}
use Rattle.holders.specs.Becoming.{Becomes}
use Rattle.holders.proofs.Sure.{sure_then}
use Rattle.holders.proofs.BaseChanges.{pushed_there, pushed_elsewhere}
use Rattle.holders.proofs.Owning.{has_stays, from_full}
use Rattle.holders.proofs.Guards.{sure_takes, sure_puts, read_at}
use Rattle.holders.proofs.UnderWay.{at_hand, no_block, not_next, popped_stays, popped_hand}
use Rattle.holders.proofs.PlainRows.{becomes_bare}

-- bits alone are copied
bare_walk : (steps : Walk) (f : Form) (to from : Location) (P : Unit {0} → World → Type 0) (world : World) → hooked f ≡ false →
    Sure (steps.plainly to from) P world → Sure (walk steps f to from) P world
bare_walk steps plain to from P world bare h = h
bare_walk steps reference to from P world bare h = absurd (false≢true (sym bare))
bare_walk steps block to from P world bare h = absurd (false≢true (sym bare))
bare_walk steps (elements f) to from P world bare h = absurd (false≢true (sym bare))
bare_walk steps (row n f) to from P world bare h =
    subst (λ b. Sure (branch b (each_part n (walk steps f) 0 to from) (steps.plainly to from)) P world) (sym bare) h
bare_walk steps (parts fs) to from P world bare h =
    subst (λ b. Sure (branch b (walk_all steps fs 0 to from) (steps.plainly to from)) P world) (sym bare) h
bare_walk steps (resource fs) to from P world bare h = absurd (false≢true (sym bare))
bare_walk steps (wrapped f) to from P world bare h = bare_walk steps f to from P world bare h

module _ (f : Form) (to : Location) (w v0 v : Value) (old bs : List ℕ) (bare : hooked f ≡ false) where
  bits_put : (from : Location) (u : Value) (world : World) → Keeps f to w v0 old world → From world from u v → Has world Constant f v bs →
      Sure (bits to from) (λ x after. Becomes f to w [] old world after) world
  bits_put from u world c source h =
      let P : Unit {0} → World → Type 0 = λ x after. Becomes f to w [] old world after in
      sure_takes (λ world v. costs (bytes v) (sets to v)) P source tt h (sure_puts v P c.at (becomes_bare f to w v0 v old bs world bare c h))

  pub bare_copied : (from : Location) (u : Value) (world : World) → Keeps f to w v0 old world → From world from u v → Has world Constant f v bs →
      Sure (assigned f to (Place from)) (λ x after. Becomes f to w [] old world after) world
  bare_copied from u world c source h =
      bare_walk assigning f to from (λ x after. Becomes f to w [] old world after) world bare (bits_put from u world c source h)

  -- a value that is under way meanwhile
  pub bare_given : (world : World) → Keeps f to w v0 old world → Has world Full f v bs →
      Sure (assigned f to (Given v)) (λ x after. Becomes f to w [] old world after) world
  bare_given world c h =
      let start = pushed world v in
      let from = in_hand world in
      let P : Unit {0} → World → Type 0 = λ x after. Becomes f to w [] old start after in
      sure_then (walk sinking f to from) (λ u. does Pops) P (λ x after. Becomes f to w [] old world after) start
      (bare_walk sinking f to from P start bare
      (bits_put from v start (record {
        at = record { base = pushed_elsewhere world v c.at.base; part = c.at.part; may = c.at.may };
        is = c.is;
        has = has_stays world start (λ k x m is. pushed_elsewhere world v is) c.has;
        distinct = c.distinct;
        apart = c.apart;
      }) (read_at (at_hand world v) refl) (from_full (has_stays world start (λ k x m is. pushed_elsewhere world v is) h))))
      (λ u after b. over world c after b)
    where
      over : (world : World) → Keeps f to w v0 old world → (after : World) → Becomes f to w [] old (pushed world v) after →
          Becomes f to w [] old world (popped after)
      over world c after b =
          let there : IsBase after (InHand (length world.hand)) v =
          b.elsewhere (InHand (length world.hand)) v (pushed_there world v) (λ e. not_next world to.base w c.at.base (sym e))
          (λ k e m. no_block (length world.hand) k e) in
          record {
            now = b.now;
            blocks = b.blocks;
            has = has_stays after (popped after) (λ k x m is. popped_stays world after v v there b.stays.hand (InBlock k) x is
                (λ q. no_block (length world.hand) k (sym q))) b.has;
            distinct = b.distinct;
            came = b.came;
            grows = b.grows;
            loses = b.loses;
            is = popped_stays world after v v there b.stays.hand to.base (put_part w to.path b.now) b.is (not_next world to.base w c.at.base);
            elsewhere = λ x y h off far. popped_stays world after v v there b.stays.hand x y
                (b.elsewhere x y (pushed_elsewhere world v h) off far) (not_next world x y h);
            stays = record { hand = popped_hand world after v v there b.stays.hand; frames = b.stays.frames };
          }
