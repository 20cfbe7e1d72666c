-- What has no blocks is put, and read.
use Rattle.std.proofs.Common.{◌≡◌, refl, sym, subst, arith, ℕ, inl, inr, Bool, true, false, List, [], ◌∷◌}
use Rattle.std.specs.Prelude.{ℤ}
use Rattle.nim_types.specs.Forms.{Form, plain, hooked}
use Rattle.nim_meaning.specs.Values.{Value, nothing, bytes, number_of, put_part, InBlock, Location}
use Rattle.nim_meaning.specs.Marks.{Distinct}
use Rattle.nim_meaning.specs.State.{World, whole_at, store}
use Rattle.nim_meaning.specs.Deeds.{Deed, costs, give, ◌>>=◌}
use Rattle.nim_meaning.specs.Places.{put, fetched, changes}
use Rattle.nim_meaning.specs.Table.{updated}
use Rattle.holders.specs.Owned.{Full, Constant, Has, Apart, Lies, Keeps}
use Rattle.holders.specs.Sure.{Sure}
use Rattle.holders.specs.Becoming.{Becomes}
use Rattle.holders.specs.Territory.{Owner, ClearOf, Territory, Moves, Owns}
use Rattle.holders.specs.Ways.{Step}
use Rattle.holders.specs.Finding.{Found, in_cell, to_be_read, Read, Fetched}
use Rattle.holders.proofs.Sure.{sure_then, sure_weaker}
use Rattle.holders.proofs.Staying.{stored_stays}
use Rattle.holders.proofs.Copying.{stored_length}
use Rattle.holders.proofs.Owning.{has_stays, plain_anywhere, from_full, plain_none}
use Rattle.holders.proofs.Guards.{sure_takes, sure_changes, read_there}
use Rattle.holders.proofs.Letters.{put_there, put_aside}
use Rattle.holders.proofs.Finding.{chain_owns}
use Rattle.holders.proofs.Ledger.{stored_live}

-- ---- a value is put

-- in a cell, or as a character
pub becomes_put : (f : Form) (l : Location) (w x : Value) (new : List ℕ) (world : World) → Lies world l w → Has world Full f x new → Distinct new →
    Apart l.base new → Becomes f l w new [] world (store world l x)
becomes_put f l w x new world at h d apart = record {
  now = x;
  blocks = new;
  has = has_stays world (store world l x) (λ k y m is. put_aside l w world at x (InBlock k) y is (λ q. apart k (sym q) m)) h;
  distinct = d;
  came = λ k m. inr (inl m);
  grows = omega (arith, stored_length world l.base (put_part (whole_at world l.base) l.path x));
  loses = λ k. omega (arith, stored_live world k l.base (put_part (whole_at world l.base) l.path x));
  is = put_there l w world at x;
  elsewhere = λ b y is q far. put_aside l w world at x b y is q;
  stays = stored_stays world (put_part (whole_at world l.base) l.path x) at.base;
}

-- where nothing has blocks
pub becomes_bare : (f : Form) (l : Location) (w v0 v : Value) (old bs : List ℕ) (world : World) → hooked f ≡ false → Keeps f l w v0 old world →
    Has world Constant f v bs → Becomes f l w [] old world (store world l v)
becomes_bare f l w v0 v old bs world bare c h =
    subst (λ ds. Becomes f l w [] ds world (store world l v)) (sym (plain_none bare c.has))
    (becomes_put f l w v [] world c.at (plain_anywhere world Full bare h) tt (λ k e m. elim m [ ]))

bare_put : (f : Form) (l : Location) (w v0 v : Value) (old bs : List ℕ) (world : World) → hooked f ≡ false → Keeps f l w v0 old world →
    Has world Constant f v bs → Sure (put l v) (λ u after. Becomes f l w [] old world after) world
bare_put f l w v0 v old bs world bare c h =
    sure_then (changes l v) (λ u. give nothing) (λ u after. Becomes f l w [] old world after) (λ u after. Becomes f l w [] old world after) world
    (sure_changes v (λ u after. Becomes f l w [] old world after) c.at (becomes_bare f l w v0 v old bs world bare c h))
    (λ u after b. b)

-- ---- where it was found

pub none_clear : (os : List Owner) → ClearOf [] os
none_clear [] = tt
none_clear (o ∷ os) = (λ k q m. elim m [ ], none_clear os)

-- what becomes of a cell
pub cell_moves : {os : List Owner} {blocks : List ℕ} {o : Owner} {world after : World} (own : Owns os blocks o world) →
    Becomes o.form o.at own.stands_in [] own.mine world after → Moves os [] blocks world after
cell_moves {os} {after = after} own b = own.moves [] after (λ k m n. elim m [ ]) (none_clear os) b

pub puts : {os : List Owner} {world : World} {root : ℕ} {steps : List Step} {f : Form} {l : Location} {v : Value} {bs : List ℕ} (t : Territory os world) →
    hooked f ≡ false → Found os world true root steps f l → Has world Constant f v bs → Sure (put l v) (λ x after. Moves os [] t.blocks world after) world
puts {os} {world} {f = f} {l = l} {v = v} {bs = bs} t bare (in_cell c goes) h =
    let own = chain_owns t c in
    sure_weaker (put l v) (λ u after. Becomes f l own.stands_in [] own.mine world after) (λ x after. Moves os [] t.blocks world after) world
    (bare_put f l own.stands_in own.value v own.mine bs world bare own.cell h) (λ x after b. cell_moves own b)

-- ---- what is found is read

pub read_found : {may : Bool} {os : List Owner} {world : World} {root : ℕ} {steps : List Step} {f : Form} {l : Location} → Territory os world →
    Found os world may root steps f l → Read f l world
read_found t (in_cell c goes) =
    let own = chain_owns t c in
    record {
      stands_in = own.stands_in;
      value = own.value;
      blocks = own.mine;
      from = read_there own.cell.at own.cell.is;
      has = from_full own.cell.has;
    }
read_found t (to_be_read {u = u} {v = v} made from h) = record { stands_in = u; value = v; blocks = []; from = from; has = h }

pub fetches : {f : Form} {l : Location} {world : World} → Read f l world → Sure (fetched l) (Fetched f world) world
fetches {f} {l} {world} r =
    sure_takes (λ world v. costs (bytes v) (give v)) (Fetched f world) r.from tt r.has (record { same = refl; blocks = r.blocks; has = r.has })

-- a number is updated
pub updates : {os : List Owner} {world : World} {root : ℕ} {steps : List Step} {l : Location} (t : Territory os world) (next : ℤ → Deed Value) →
    Found os world true root steps plain l → ((z : ℤ) → Sure (next z) (λ x after. (after ≡ world) × Has world Constant plain x []) world) →
    Sure (updated l next) (λ x after. Moves os [] t.blocks world after) world
updates {os} {world} {l = l} t next found step =
    let r = read_found t found in
    sure_takes (λ world v. costs (bytes v) (next (number_of v) >>= put l)) (λ x after. Moves os [] t.blocks world after) r.from tt r.has
    (sure_then (next (number_of r.value)) (put l) (λ x after. (after ≡ world) × Has world Constant plain x [])
    (λ x after. Moves os [] t.blocks world after) world
    (step (number_of r.value))
    (λ x after h. subst (λ w. Sure (put l x) (λ y last. Moves os [] t.blocks world last) w) (sym h.0) (puts t refl found h.1)))
