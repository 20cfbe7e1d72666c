-- What comes of it that values end, are given up, and are popped.
use Rattle.std.specs.Prelude.{◌≡◌, ℕ, ◌+◌, List, []}
use Rattle.nim_types.specs.Forms.{Form, elements}
use Rattle.nim_meaning.specs.Values.{Value, Base, InBlock, Location, put_part}
use Rattle.nim_meaning.specs.Marks.{Member, Distinct}
use Rattle.nim_meaning.specs.State.{World}
use Rattle.holders.specs.Holders.{held_by}
use Rattle.holders.specs.Owned.{IsBase, Full, Gaps, Has, Elsewhere, Stays}
use Rattle.holders.specs.Becoming.{times, LosesNone, HeldOnce, none, Turns}

-- nothing was given away or got lost, and as many values are under way
pub record KeepsOnce (world after : World) : Type 0 where
  pub held : (others : ℕ → ℕ) → HeldOnce others world → HeldOnce others after
  pub stays : Stays world after

-- what is left has nothing
pub record Ended (f : Form) (l : Location) (w : Value) (bs : List ℕ) (world after : World) : Type 0 where
  pub now : Value
  pub has : Has after Gaps f now []
  pub is : IsBase after l.base (put_part w l.path now)
  pub elsewhere : Elsewhere world after l.base bs
  pub loses : LosesNone (λ k. times k bs) none world after
  pub once : KeepsOnce world after

-- a value that no place has ends
pub record GivenUp (v : Value) (bs : List ℕ) (world after : World) : Type 0 where
  pub stays : Stays world after
  pub elsewhere : (b : Base) (x : Value) → IsBase world b x → ((k : ℕ) → b ≡ InBlock k → Member k bs → ⊥) → IsBase after b x
  pub loses : LosesNone (λ k. times k bs) none world after
  pub once : (others : ℕ → ℕ) → HeldOnce (λ k. held_by k v + others k) world → HeldOnce others after

-- a value of the form of elements, with blocks that were the sequence's and aren't any more
pub record Popped (f : Form) (l : Location) (w : Value) (old : List ℕ) (world : World) (x : Value) (after : World) : Type 0 where
  pub taken : List ℕ
  pub kept : List ℕ
  pub has : Has after Full f x taken
  pub distinct : Distinct taken
  pub taken_were : (k : ℕ) → Member k taken → Member k old
  pub kept_were : (k : ℕ) → Member k kept → Member k old
  pub apart : (k : ℕ) → Member k taken → Member k kept → ⊥
  pub were : (k : ℕ) → times k taken + times k kept ≡ times k old
  pub turns : Turns none (λ j. held_by j x) (elements f) l w [] kept world after
