-- A place gets the value of another one, which is left with nothing; the old value ends. All else stays, and each block has one holder.
use Rattle.std.proofs.Common.{◌≡◌, refl, sym, ap, subst, ◌∙◌, arith, ℕ, zero, suc, ◌+◌, ◌<◌, ◌≤◌, inl, inr, Bool, true, false, List, [], ◌++◌}
use Rattle.std.proofs.Common.{◌⊎◌}
use Rattle.nim_types.specs.Forms.{Form, plain, reference, block, elements, row, parts, resource, wrapped, Forms, no_forms, forms, of_some, hooked, hooked_any}
use Rattle.nim_meaning.specs.Values.{Value, bytes, Parts, Values, Nil, More, nth, count, with_nth, part, put_part, Base, InBlock, Location, deeper}
use Rattle.nim_meaning.specs.Marks.{Member, Distinct}
use Rattle.nim_meaning.specs.State.{World, whole_at, store, stored}
use Rattle.nim_meaning.specs.Acts.{branch}
use Rattle.nim_meaning.specs.Deeds.{costs, sees, sets, ◌>>◌}
use Rattle.nim_meaning.specs.Lifted.{walk, walk_all, each_part, sinking, sunk, bits, ends_at}
use Rattle.holders.specs.Owned.{IsBase, At, Full, Gaps, Has, a_row, some_parts, of_wrapped, HasEach, none_more, one_more, HasAll, no_parts, a_part}
use Rattle.holders.specs.Owned.{Apart, in_rows}
use Rattle.holders.specs.Sure.{Sure}
use Rattle.holders.specs.Holders.{held_by}
use Rattle.holders.specs.Walks.{Ended, KeepsOnce}
use Rattle.holders.proofs.Staying.{stays_then, stored_stays}
use Rattle.holders.proofs.Bases.{whole_is, stored_there, stored_elsewhere}
use Rattle.holders.proofs.Sure.{sure_then, sure_weaker}
use Rattle.holders.proofs.PathLemmas.{count_with, nth_with, nth_without, part_of_put, put_twice, has_put, put_deeper, put_same}
use Rattle.holders.proofs.Ledger.{keeps_none, keeps_then, stored_counts, stored_live, times_both}
use Rattle.holders.proofs.Owning.{in_first, in_second, distinct_first, distinct_second}
use Rattle.holders.proofs.Owning.{distinct_apart, Stay, has_stays, each_stays, all_stays, each_same, all_same, from_full, has_none, plain_none, plain_anywhere}
use Rattle.holders.proofs.Guards.{sure_sees, sure_takes, sure_sets, read_at}
use Rattle.holders.proofs.Ending.{Row, same_number, at_part, part_is, may_deeper, ends}
use Rattle.holders.specs.Becoming.{times, none, LosesNone}

-- all else but two bases and these blocks
abbrev pub ElsewhereTwo : (world after : World) → (to from : Base) → List ℕ → Type 0
ElsewhereTwo world after to from bs =
    (b : Base) (x : Value) → IsBase world b x → (b ≡ to → ⊥) → (b ≡ from → ⊥) → ((k : ℕ) → b ≡ InBlock k → Member k bs → ⊥) → IsBase after b x

-- the place has the value now, and what it came from has nothing
pub record Sunk (f : Form) (to from : Location) (w u v : Value) (old new : List ℕ) (world after : World) : Type 0 where
  pub left : Value
  pub has : Has after Full f v new
  pub nothing : Has after Gaps f left []
  pub there : IsBase after to.base (put_part w to.path v)
  pub behind : IsBase after from.base (put_part u from.path left)
  pub elsewhere : ElsewhereTwo world after to.base from.base old
  pub loses : LosesNone (λ k. times k old) none world after
  pub once : KeepsOnce world after

-- the blocks of both are apart, and neither base is one of them
pub record Clear (to from : Base) (old new : List ℕ) : Type 0 where
  pub two : to ≡ from → ⊥
  pub old_once : Distinct old
  pub new_once : Distinct new
  pub both : (k : ℕ) → Member k old → Member k new → ⊥
  pub to_old : Apart to old
  pub to_new : Apart to new
  pub from_old : Apart from old
  pub from_new : Apart from new

abbrev pub Sinks : Form → Type 0
Sinks f = (to from : Location) (w u v0 v : Value) (old new : List ℕ) (world : World) → At world to w → At world from u → part w to.path ≡ v0 →
    part u from.path ≡ v → Has world Full f v0 old → Has world Full f v new → Clear to.base from.base old new →
    Sure (walk sinking f to from) (λ x after. Sunk f to from w u v old new world after) world

-- ---- a value is stored

module _ (to : Location) (w : Value) (world : World) (at : At world to w) (x : Value) where
  pub is_put : IsBase (store world to x) to.base (put_part w to.path x)
  is_put =
      subst (λ y. IsBase (stored world to.base (put_part y to.path x)) to.base (put_part w to.path x)) (sym (whole_is world to.base w at.base))
      (stored_there world x at.base (in_rows at.part) at.may)

  pub put_elsewhere : (b : Base) (y : Value) → IsBase world b y → (b ≡ to.base → ⊥) → IsBase (store world to x) b y
  put_elsewhere b y h d = stored_elsewhere world (put_part (whole_at world to.base) to.path x) d at.base h

-- ---- two places trade

module _ (f : Form) (to from : Location) (w u v0 v : Value) (old new : List ℕ) (world : World) (at : At world to w) (at_from : At world from u)
    (e0 : part w to.path ≡ v0) (e : part u from.path ≡ v) (h0 : Has world Full f v0 old) (h : Has world Full f v new)
    (clear : Clear to.base from.base old new) where
  abbrev first_world : World
  first_world = store world to v

  abbrev second_world : World
  second_world = store first_world from v0

  from_in_first : At first_world from u
  from_in_first = record { base = put_elsewhere to w world at v from.base u at_from.base (λ q. clear.two (sym q)); part = at_from.part; may = at_from.may }

  -- a base that is neither
  traded_elsewhere : (b : Base) (x : Value) → IsBase world b x → (b ≡ to.base → ⊥) → (b ≡ from.base → ⊥) → IsBase second_world b x
  traded_elsewhere b x is d c = put_elsewhere from u first_world from_in_first v0 b x (put_elsewhere to w world at v b x is d) c

  from_in_second : At second_world from (put_part u from.path v0)
  from_in_second = record { base = is_put from u first_world from_in_first v0; part = has_put v0 at_from.part; may = at_from.may }

  to_in_second : IsBase second_world to.base (put_part w to.path v)
  to_in_second = put_elsewhere from u first_world from_in_first v0 to.base (put_part w to.path v) (is_put to w world at v) clear.two

  stay_in_second : (bs : List ℕ) → Apart to.base bs → Apart from.base bs → Stay world second_world bs
  stay_in_second bs a b k x m is = traded_elsewhere (InBlock k) x is (λ q. a k (sym q) m) (λ q. b k (sym q) m)

  traded_once : KeepsOnce world second_world
  traded_once = record {
    held = λ others is k. omega (
      arith,
      is k,
      ap (held_by k) e0,
      ap (held_by k) e,
      stored_counts world k to v at.base at.part at.may,
      stored_live world k to.base (put_part (whole_at world to.base) to.path v),
      stored_counts first_world k from v0 from_in_first.base from_in_first.part from_in_first.may,
      stored_live first_world k from.base (put_part (whole_at first_world from.base) from.path v0),
    );
    stays = stays_then (stored_stays world (put_part (whole_at world to.base) to.path v) at.base)
        (stored_stays first_world (put_part (whole_at first_world from.base) from.path v0) from_in_first.base);
  }

  -- and then what the second one got ends
  trades : Sure (sunk f to from) (λ x after. Sunk f to from w u v old new world after) world
  trades =
      let Q : Unit {0} → World → Type 0 = λ x after. Sunk f to from w u v old new world after in
      sure_sees (λ world old. sees from (λ world new. sets to new >> (sets from old >> ends_at f from))) Q at e0 tt h0
      (sure_sees (λ world new. sets to new >> (sets from v0 >> ends_at f from)) Q at_from e tt h
      (sure_then (sets to v) (λ u. sets from v0 >> ends_at f from) (λ u after. after ≡ first_world) Q world
      (sure_sets v (λ u after. after ≡ first_world) at refl)
      (λ u after is. subst (λ y. Sure (sets from v0 >> ends_at f from) Q y) (sym is)
      (sure_then (sets from v0) (λ u. ends_at f from) (λ u after. after ≡ second_world) Q first_world
      (sure_sets v0 (λ u after. after ≡ second_world) from_in_first refl)
      (λ u after is. subst (λ y. Sure (ends_at f from) Q y) (sym is) what_it_got_ends)))))
    where
      what_it_got_ends : Sure (ends_at f from) (λ x after. Sunk f to from w u v old new world after) second_world
      what_it_got_ends =
          sure_weaker (ends_at f from) (λ x after. Ended f from (put_part u from.path v0) old second_world after)
          (λ x after. Sunk f to from w u v old new world after) second_world
          (ends f from (put_part u from.path v0) v0 old second_world from_in_second (part_of_put v0 at_from.part)
          (has_stays world second_world (stay_in_second old clear.to_old clear.from_old) h0) clear.old_once clear.from_old)
          (λ x after t. record {
            left = t.now;
            has = has_stays second_world after (λ k x m is. t.elsewhere (InBlock k) x is (λ q. clear.from_new k (sym q) m)
                (λ j q n. clear.both j n (subst (λ i. Member i new) (same_number k j q) m)))
                (has_stays world second_world (stay_in_second new clear.to_new clear.from_new) h);
            nothing = t.has;
            there = t.elsewhere to.base (put_part w to.path v) to_in_second clear.two (λ k q m. clear.to_old k q m);
            behind = subst (λ z. IsBase after from.base z) (put_twice v0 t.now at_from.part) t.is;
            elsewhere = λ b x is d c far. t.elsewhere b x (traded_elsewhere b x is d c) c far;
            loses = λ k. omega (
              arith,
              t.loses k,
              stored_live world k to.base (put_part (whole_at world to.base) to.path v),
              stored_live first_world k from.base (put_part (whole_at first_world from.base) from.path v0),
            );
            once = keeps_then traded_once t.once;
          })

text_sinks : Sinks block
text_sinks to from w u v0 v old new world at at_from e0 e h0 h clear = trades block to from w u v0 v old new world at at_from e0 e h0 h clear

sequence_sinks : (f : Form) → Sinks (elements f)
sequence_sinks f to from w u v0 v old new world at at_from e0 e h0 h clear =
    trades (elements f) to from w u v0 v old new world at at_from e0 e h0 h clear

-- bits alone: what it came from keeps them
plainly_sunk : (f : Form) (to from : Location) (w u v0 v : Value) (old new : List ℕ) (world : World) → At world to w → At world from u → part w to.path ≡ v0 →
    part u from.path ≡ v → hooked f ≡ false → Has world Full f v0 old → Has world Full f v new → (to.base ≡ from.base → ⊥) →
    Sure (bits to from) (λ x after. Sunk f to from w u v old new world after) world
plainly_sunk f to from w u v0 v old new world at at_from e0 e bare h0 h two =
    sure_takes (λ world v. costs (bytes v) (sets to v)) (λ x after. Sunk f to from w u v old new world after) (read_at at_from e) tt h
    (sure_sets v (λ x after. Sunk f to from w u v old new world after) at (record {
      left = v;
      has = subst (λ bs. Has (store world to v) Full f v bs) (sym (plain_none bare h)) (plain_anywhere (store world to v) Full bare (from_full h));
      nothing = plain_anywhere (store world to v) Gaps bare (from_full h);
      there = is_put to w world at v;
      behind = subst (λ z. IsBase (store world to v) from.base z) (sym (ap (put_part u from.path) (sym e) ∙ put_same at_from.part))
          (put_elsewhere to w world at v from.base u at_from.base (λ q. two (sym q)));
      elsewhere = λ b x is d c far. put_elsewhere to w world at v b x is d;
      loses = λ k. omega (arith, ap (times k) (plain_none bare h0), stored_live world k to.base (put_part (whole_at world to.base) to.path v));
      once = record {
        held = λ others is k. omega (
          arith,
          is k,
          ap (held_by k) e0,
          has_none (plain_none bare h0) h0 k,
          has_none (plain_none bare h) h k,
          stored_counts world k to v at.base at.part at.may,
          stored_live world k to.base (put_part (whole_at world to.base) to.path v),
        );
        stays = stored_stays world (put_part (whole_at world to.base) to.path v) at.base;
      };
    }))

-- ---- part by part

same_values : (vs ws : Values) → count vs ≡ count ws → ((j : ℕ) → j < count vs → nth vs j ≡ nth ws j) → vs ≡ ws
same_values Nil Nil e h = refl
same_values Nil (More x ws) e h = absurd (omega (arith, e))
same_values (More v vs) Nil e h = absurd (omega (arith, e))
same_values (More v vs) (More x ws) e h =
    ap (λ y. More y vs) (h 0 (omega arith)) ∙ ap (λ ys. More x ys) (same_values vs ws (omega (arith, e)) (λ j le. h (suc j) (omega (arith, le))))

record SunkParts (nothing : World → Values → Type 0) (i bound : ℕ) (o s : Location) (w u : Value) (all src : Values) (old : List ℕ) (world after : World)
    : Type 0
  where
    now : Values
    rest : Values
    there : IsBase after o.base (put_part w o.path (Parts now))
    behind : IsBase after s.base (put_part u s.path (Parts rest))
    now_count : count now ≡ count all
    rest_count : count rest ≡ count src
    now_before : (j : ℕ) → j < i → nth now j ≡ nth all j
    rest_before : (j : ℕ) → j < i → nth rest j ≡ nth src j
    moved : (j : ℕ) → i ≤ j → j < bound → nth now j ≡ nth src j
    left : nothing after rest
    elsewhere : ElsewhereTwo world after o.base s.base old
    loses : LosesNone (λ k. times k old) none world after
    once : KeepsOnce world after

abbrev EachNothing : Form → ℕ → ℕ → World → Values → Type 0
EachNothing f n i world all = HasEach world Gaps f n i all []

abbrev AllNothing : Forms → ℕ → World → Values → Type 0
AllNothing fs i world all = HasAll world Gaps fs i all []

nothing_sunk : (nothing : World → Values → Type 0) (i bound : ℕ) (o s : Location) (w u : Value) (all src : Values) (world : World) → Row world o w all →
    Row world s u src → bound ≡ i → nothing world src → SunkParts nothing i bound o s w u all src [] world world
nothing_sunk nothing i bound o s w u all src world r q e h = record {
  now = all;
  rest = src;
  there = subst (λ v. IsBase world o.base v) (sym (ap (put_part w o.path) (sym r.is) ∙ put_same r.part_there)) r.base;
  behind = subst (λ v. IsBase world s.base v) (sym (ap (put_part u s.path) (sym q.is) ∙ put_same q.part_there)) q.base;
  now_count = refl;
  rest_count = refl;
  now_before = λ j le. refl;
  rest_before = λ j le. refl;
  moved = λ j le less. absurd (no_more i bound j e le less);
  left = h;
  elsewhere = λ b x is d c far. is;
  loses = λ k. omega arith;
  once = keeps_none world;
}
  where
    no_more : (i bound j : ℕ) → bound ≡ i → i ≤ j → j < bound → ⊥
    no_more i bound j e le less = omega (arith, e, le, less)

clear_first : (to from : Base) (bs cs ds es : List ℕ) → Clear to from (bs ++ cs) (ds ++ es) → Clear to from bs ds
clear_first to from bs cs ds es h = record {
  two = h.two;
  old_once = distinct_first bs cs h.old_once;
  new_once = distinct_first ds es h.new_once;
  both = λ k m n. h.both k (in_first k bs cs m) (in_first k ds es n);
  to_old = λ k e m. h.to_old k e (in_first k bs cs m);
  to_new = λ k e m. h.to_new k e (in_first k ds es m);
  from_old = λ k e m. h.from_old k e (in_first k bs cs m);
  from_new = λ k e m. h.from_new k e (in_first k ds es m);
}

clear_second : (to from : Base) (bs cs ds es : List ℕ) → Clear to from (bs ++ cs) (ds ++ es) → Clear to from cs es
clear_second to from bs cs ds es h = record {
  two = h.two;
  old_once = distinct_second bs cs h.old_once;
  new_once = distinct_second ds es h.new_once;
  both = λ k m n. h.both k (in_second k bs cs m) (in_second k ds es n);
  to_old = λ k e m. h.to_old k e (in_second k bs cs m);
  to_new = λ k e m. h.to_new k e (in_second k ds es m);
  from_old = λ k e m. h.from_old k e (in_second k bs cs m);
  from_new = λ k e m. h.from_new k e (in_second k ds es m);
}

-- the first part is sunk, and so the others stand as before
module _ (f : Form) (i bound : ℕ) (o s : Location) (w u : Value) (all src : Values) (bs cs ds es : List ℕ) (world : World) (r : Row world o w all)
    (q : Row world s u src) (le : i < count all) (less : i < count src) (clear : Clear o.base s.base (bs ++ cs) (ds ++ es)) (after : World)
    (t : Sunk f (deeper o i) (deeper s i) w u (nth src i) bs ds world after) where
  abbrev to_row : Values
  to_row = with_nth all i (nth src i)

  abbrev from_row : Values
  from_row = with_nth src i t.left

  abbrev to_whole : Value
  to_whole = put_part w o.path (Parts to_row)

  abbrev from_whole : Value
  from_whole = put_part u s.path (Parts from_row)

  next_to : Row after o to_whole to_row
  next_to = record {
    base = subst (λ v. IsBase after o.base v) (put_deeper i all (nth src i) r.part_there r.is) t.there;
    part_there = has_put (Parts to_row) r.part_there;
    is = part_of_put (Parts to_row) r.part_there;
    may = r.may;
  }

  next_from : Row after s from_whole from_row
  next_from = record {
    base = subst (λ v. IsBase after s.base v) (put_deeper i src t.left q.part_there q.is) t.behind;
    part_there = has_put (Parts from_row) q.part_there;
    is = part_of_put (Parts from_row) q.part_there;
    may = q.may;
  }

  old_stay : Stay world after cs
  old_stay k x m h =
      t.elsewhere (InBlock k) x h (λ e. clear.to_old k (sym e) (in_second k bs cs m)) (λ e. clear.from_old k (sym e) (in_second k bs cs m))
      (λ j e n. distinct_apart j bs cs clear.old_once n (subst (λ i. Member i cs) (same_number k j e) m))

  new_stay : Stay world after es
  new_stay k x m h =
      t.elsewhere (InBlock k) x h (λ e. clear.to_new k (sym e) (in_second k ds es m)) (λ e. clear.from_new k (sym e) (in_second k ds es m))
      (λ j e n. clear.both j (in_first j bs cs n) (in_second j ds es (subst (λ i. Member i es) (same_number k j e) m)))

  later : (vs : Values) (x : Value) (j : ℕ) → suc i ≤ j → nth (with_nth vs i x) j ≡ nth vs j
  later vs x j more = nth_without vs i j x (λ e. no_later i j more e)
    where
      no_later : (i j : ℕ) → suc i ≤ j → j ≡ i → ⊥
      no_later i j more e = omega (arith, more, e)

  earlier : (vs : Values) (x : Value) (j : ℕ) → j < i → nth (with_nth vs i x) j ≡ nth vs j
  earlier vs x j more = nth_without vs i j x (λ e. not_before i j more e)
    where
      not_before : (i j : ℕ) → j < i → j ≡ i → ⊥
      not_before i j more e = omega (arith, more, e)

  sunk_more : (nothing rest : World → Values → Type 0) →
      ((last : World) (now : Values) → count now ≡ count src → nth now i ≡ t.left → Has last Gaps f t.left [] →
      rest last now → nothing last now) → (last : World) →
      SunkParts rest (suc i) bound o s to_whole from_whole to_row from_row cs after last → SunkParts nothing i bound o s w u all src (bs ++ cs) world last
  sunk_more nothing rest both last z = record {
    now = z.now;
    rest = z.rest;
    there = subst (λ v. IsBase last o.base v) (put_twice (Parts to_row) (Parts z.now) r.part_there) z.there;
    behind = subst (λ v. IsBase last s.base v) (put_twice (Parts from_row) (Parts z.rest) q.part_there) z.behind;
    now_count = z.now_count ∙ count_with all i (nth src i);
    rest_count = z.rest_count ∙ count_with src i t.left;
    now_before = λ j more. z.now_before j (omega (arith, more)) ∙ earlier all (nth src i) j more;
    rest_before = λ j more. z.rest_before j (omega (arith, more)) ∙ earlier src t.left j more;
    moved = λ j at more. here_or_later j (here i j at) more;
    left = both last z.rest (z.rest_count ∙ count_with src i t.left) (z.rest_before i (omega arith) ∙ nth_with src i t.left less)
        (has_stays after last (λ k x m h. elim m [ ]) t.nothing) z.left;
    elsewhere = λ b x h d c far.
        z.elsewhere b x (t.elsewhere b x h d c (λ k e m. far k e (in_first k bs cs m))) d c (λ k e m. far k e (in_second k bs cs m));
    loses = λ k. omega (arith, t.loses k, z.loses k, times_both k bs cs);
    once = keeps_then t.once z.once;
  }
    where
      here : (i j : ℕ) → i ≤ j → (j ≡ i) ⊎ (suc i ≤ j)
      here zero zero at = inl refl
      here zero (suc j) at = inr (omega arith)
      here (suc i) zero at = absurd (omega (arith, at))
      here (suc i) (suc j) at = further (here i j (omega (arith, at)))
        where
          further : (j ≡ i) ⊎ (suc i ≤ j) → (suc j ≡ suc i) ⊎ (suc (suc i) ≤ suc j)
          further (inl e) = inl (ap suc e)
          further (inr more) = inr (omega (arith, more))

      here_or_later : (j : ℕ) → (j ≡ i) ⊎ (suc i ≤ j) → j < bound → nth z.now j ≡ nth src j
      here_or_later j (inl e) more =
          subst (λ j. nth z.now j ≡ nth src j) (sym e) (z.now_before i (omega arith) ∙ nth_with all i (nth src i) le)
      here_or_later j (inr at) more = z.moved j at more ∙ later src t.left j at

each_sinks : (f : Form) → Sinks f → (n i bound : ℕ) → bound ≡ i + n → (o s : Location) (w u : Value) (all src : Values) (old new : List ℕ) (world : World) →
    Row world o w all → Row world s u src → HasEach world Full f n i all old → HasEach world Full f n i src new → Clear o.base s.base old new →
    Sure (each_part n (walk sinking f) i o s) (λ x after. SunkParts (EachNothing f n i) i bound o s w u all src old world after) world
each_sinks f sinks zero i bound e o s w u all src _ _ world r q none_more none_more clear =
    nothing_sunk (EachNothing f 0 i) i bound o s w u all src world r q (omega (arith, e)) none_more
each_sinks f sinks (suc n) i bound e o s w u all src _ _ world r q (one_more {bs = bs} {cs = cs} le h more) (one_more {bs = ds} {cs = es} less g others) clear =
    sure_then (walk sinking f (deeper o i) (deeper s i)) (λ x. each_part n (walk sinking f) (suc i) o s)
    (λ x after. Sunk f (deeper o i) (deeper s i) w u (nth src i) bs ds world after)
    (λ x after. SunkParts (EachNothing f (suc n) i) i bound o s w u all src (bs ++ cs) world after) world
    (sinks (deeper o i) (deeper s i) w u (nth all i) (nth src i) bs ds world (at_part i o w all world r le) (at_part i s u src world q less)
    (part_is i o w all r.is) (part_is i s u src q.is) h g (clear_first o.base s.base bs cs ds es clear))
    (λ x after t.
    let to_now = to_row f i bound o s w u all src bs cs ds es world r q le less clear after t in
    let from_now = from_row f i bound o s w u all src bs cs ds es world r q le less clear after t in
    let to_all = to_whole f i bound o s w u all src bs cs ds es world r q le less clear after t in
    let from_all = from_whole f i bound o s w u all src bs cs ds es world r q le less clear after t in
    sure_weaker (each_part n (walk sinking f) (suc i) o s)
    (λ x last. SunkParts (EachNothing f n (suc i)) (suc i) bound o s to_all from_all to_now from_now cs after last)
    (λ x last. SunkParts (EachNothing f (suc n) i) i bound o s w u all src (bs ++ cs) world last) after
    (each_sinks f sinks n (suc i) bound (omega (arith, e)) o s to_all from_all to_now from_now cs es after
    (next_to f i bound o s w u all src bs cs ds es world r q le less clear after t)
    (next_from f i bound o s w u all src bs cs ds es world r q le less clear after t)
    (each_same to_now (count_with all i (nth src i), later f i bound o s w u all src bs cs ds es world r q le less clear after t all (nth src i))
    (each_stays world after (old_stay f i bound o s w u all src bs cs ds es world r q le less clear after t) more))
    (each_same from_now (count_with src i t.left, later f i bound o s w u all src bs cs ds es world r q le less clear after t src t.left)
    (each_stays world after (new_stay f i bound o s w u all src bs cs ds es world r q le less clear after t) others))
    (clear_second o.base s.base bs cs ds es clear))
    (λ x last z. sunk_more f i bound o s w u all src bs cs ds es world r q le less clear after t (EachNothing f (suc n) i) (EachNothing f n (suc i))
    (λ last now same is has rest. one_more (subst (λ n. i < n) (sym same) less) (subst (λ v. Has last Gaps f v []) (sym is) has) rest) last z))

abbrev AllSinks : Forms → Type 0
AllSinks fs = (i bound : ℕ) (o s : Location) (w u : Value) (all src : Values) (old new : List ℕ) (world : World) → count src ≡ bound → Row world o w all →
    Row world s u src → HasAll world Full fs i all old → HasAll world Full fs i src new → Clear o.base s.base old new →
    Sure (walk_all sinking fs i o s) (λ x after. SunkParts (AllNothing fs i) i bound o s w u all src old world after) world

no_more_sinks : AllSinks no_forms
no_more_sinks i bound o s w u all src _ _ world e r q (no_parts a) (no_parts b) clear =
    nothing_sunk (AllNothing no_forms i) i bound o s w u all src world r q (sym e ∙ b) (no_parts b)

more_sinks : (f : Form) (fs : Forms) → Sinks f → AllSinks fs → AllSinks (forms f fs)
more_sinks f fs sinks all_sink i bound o s w u all src _ _ world e r q (a_part {bs = bs} {cs = cs} le h more) (a_part {bs = ds} {cs = es} less g others) clear =
    sure_then (walk sinking f (deeper o i) (deeper s i)) (λ x. walk_all sinking fs (suc i) o s)
    (λ x after. Sunk f (deeper o i) (deeper s i) w u (nth src i) bs ds world after)
    (λ x after. SunkParts (AllNothing (forms f fs) i) i bound o s w u all src (bs ++ cs) world after) world
    (sinks (deeper o i) (deeper s i) w u (nth all i) (nth src i) bs ds world (at_part i o w all world r le) (at_part i s u src world q less)
    (part_is i o w all r.is) (part_is i s u src q.is) h g (clear_first o.base s.base bs cs ds es clear))
    (λ x after t.
    let to_now = to_row f i bound o s w u all src bs cs ds es world r q le less clear after t in
    let from_now = from_row f i bound o s w u all src bs cs ds es world r q le less clear after t in
    let to_all = to_whole f i bound o s w u all src bs cs ds es world r q le less clear after t in
    let from_all = from_whole f i bound o s w u all src bs cs ds es world r q le less clear after t in
    sure_weaker (walk_all sinking fs (suc i) o s) (λ x last. SunkParts (AllNothing fs (suc i)) (suc i) bound o s to_all from_all to_now from_now cs after last)
    (λ x last. SunkParts (AllNothing (forms f fs) i) i bound o s w u all src (bs ++ cs) world last) after
    (all_sink (suc i) bound o s to_all from_all to_now from_now cs es after (count_with src i t.left ∙ e)
    (next_to f i bound o s w u all src bs cs ds es world r q le less clear after t)
    (next_from f i bound o s w u all src bs cs ds es world r q le less clear after t)
    (all_same to_now (count_with all i (nth src i), later f i bound o s w u all src bs cs ds es world r q le less clear after t all (nth src i))
    (all_stays world after (old_stay f i bound o s w u all src bs cs ds es world r q le less clear after t) more))
    (all_same from_now (count_with src i t.left, later f i bound o s w u all src bs cs ds es world r q le less clear after t src t.left)
    (all_stays world after (new_stay f i bound o s w u all src bs cs ds es world r q le less clear after t) others))
    (clear_second o.base s.base bs cs ds es clear))
    (λ x last z. sunk_more f i bound o s w u all src bs cs ds es world r q le less clear after t (AllNothing (forms f fs) i) (AllNothing fs (suc i))
    (λ last now same is has rest. a_part (subst (λ n. i < n) (sym same) less) (subst (λ v. Has last Gaps f v []) (sym is) has) rest) last z))

-- ---- forms

-- a row whose parts are sunk
sunk_row : (f : Form) (nothing : World → Values → Type 0) (bound : ℕ) (to from : Location) (w u : Value) (all src : Values) (old new : List ℕ)
    (world after : World) →
    count all ≡ count src → count src ≡ bound → Has world Full f (Parts src) new →
    ((rest : Values) → count rest ≡ count src → nothing after rest → Has after Gaps f (Parts rest) []) →
    Clear to.base from.base old new → SunkParts nothing 0 bound to from w u all src old world after → Sunk f to from w u (Parts src) old new world after
sunk_row f nothing bound to from w u all src old new world after same end has gone clear z = record {
  left = Parts z.rest;
  has = has_stays world after (λ k x m h. z.elsewhere (InBlock k) x h (λ e. clear.to_new k (sym e) m) (λ e. clear.from_new k (sym e) m)
      (λ j e n. clear.both j n (subst (λ i. Member i new) (same_number k j e) m))) has;
  nothing = gone z.rest z.rest_count z.left;
  there = subst (λ vs. IsBase after to.base (put_part w to.path (Parts vs)))
      (same_values z.now src (z.now_count ∙ same) (λ j le. z.moved j (omega arith) (omega (arith, le, z.now_count, same, end)))) z.there;
  behind = z.behind;
  elsewhere = z.elsewhere;
  loses = z.loses;
  once = z.once;
}

plain_sinks : Sinks plain
plain_sinks to from w u v0 v old new world at at_from e0 e h0 h clear =
    plainly_sunk plain to from w u v0 v old new world at at_from e0 e refl h0 h clear.two

reference_sinks : Sinks reference
reference_sinks to from w u v0 v old new world at at_from e0 e h0 h clear = elim h [ ]

resource_sinks : (fs : Forms) → Sinks (resource fs)
resource_sinks fs to from w u v0 v old new world at at_from e0 e h0 h clear = elim h [ ]

row_sinks : (n : ℕ) (f : Form) → Sinks f → Sinks (row n f)
row_sinks n f sinks to from w u v0 v old new world at at_from e0 e h0 h clear = by (of_some n (hooked f)) refl v0 v old new e0 e h0 h clear
  where
    by : (b : Bool) → of_some n (hooked f) ≡ b → (v0 v : Value) (old new : List ℕ) → part w to.path ≡ v0 → part u from.path ≡ v →
        Has world Full (row n f) v0 old → Has world Full (row n f) v new → Clear to.base from.base old new →
        Sure (branch b (each_part n (walk sinking f) 0 to from) (bits to from)) (λ x after. Sunk (row n f) to from w u v old new world after) world
    by false is v0 v old new e0 e h0 h clear = plainly_sunk (row n f) to from w u v0 v old new world at at_from e0 e is h0 h clear.two
    by true is _ _ _ _ e0 e (a_row {all = all} {bs = bs} same each) (a_row {all = src} {bs = ds} same2 each2) clear =
        sure_weaker (each_part n (walk sinking f) 0 to from) (λ x after. SunkParts (EachNothing f n 0) 0 n to from w u all src bs world after)
        (λ x after. Sunk (row n f) to from w u (Parts src) bs ds world after) world
        (each_sinks f sinks n 0 n (omega arith) to from w u all src bs ds world
        (record { base = at.base; part_there = at.part; is = e0; may = λ i. may_deeper i at.may })
        (record { base = at_from.base; part_there = at_from.part; is = e; may = λ i. may_deeper i at_from.may }) each each2 clear)
        (λ x after z. sunk_row (row n f) (EachNothing f n 0) n to from w u all src bs ds world after (same ∙ sym same2) same2 (a_row same2 each2)
        (λ rest q left. a_row (q ∙ same2) left) clear z)

all_count : {world : World} {fs : Forms} {i : ℕ} {all src : Values} {bs ds : List ℕ} → HasAll world Full fs i all bs → HasAll world Full fs i src ds →
    count all ≡ count src
all_count (no_parts a) (no_parts b) = a ∙ sym b
all_count (a_part le h more) (a_part less g others) = all_count more others

parts_sink : (fs : Forms) → AllSinks fs → Sinks (parts fs)
parts_sink fs sinks to from w u v0 v old new world at at_from e0 e h0 h clear = by (hooked_any fs) refl v0 v old new e0 e h0 h clear
  where
    by : (b : Bool) → hooked_any fs ≡ b → (v0 v : Value) (old new : List ℕ) → part w to.path ≡ v0 → part u from.path ≡ v →
        Has world Full (parts fs) v0 old → Has world Full (parts fs) v new → Clear to.base from.base old new →
        Sure (branch b (walk_all sinking fs 0 to from) (bits to from)) (λ x after. Sunk (parts fs) to from w u v old new world after) world
    by false is v0 v old new e0 e h0 h clear = plainly_sunk (parts fs) to from w u v0 v old new world at at_from e0 e is h0 h clear.two
    by true is _ _ _ _ e0 e (some_parts {all = all} {bs = bs} h0) (some_parts {all = src} {bs = ds} h) clear =
        sure_weaker (walk_all sinking fs 0 to from) (λ x after. SunkParts (AllNothing fs 0) 0 (count src) to from w u all src bs world after)
        (λ x after. Sunk (parts fs) to from w u (Parts src) bs ds world after) world
        (sinks 0 (count src) to from w u all src bs ds world refl
        (record { base = at.base; part_there = at.part; is = e0; may = λ i. may_deeper i at.may })
        (record { base = at_from.base; part_there = at_from.part; is = e; may = λ i. may_deeper i at_from.may }) h0 h clear)
        (λ x after z. sunk_row (parts fs) (AllNothing fs 0) (count src) to from w u all src bs ds world after (all_count h0 h) refl (some_parts h)
        (λ rest q left. some_parts left) clear z)

wrapped_sinks : (f : Form) → Sinks f → Sinks (wrapped f)
wrapped_sinks f sinks to from w u v0 v old new world at at_from e0 e (of_wrapped h0) (of_wrapped h) clear =
    sure_weaker (walk sinking f to from) (λ x after. Sunk f to from w u v old new world after)
    (λ x after. Sunk (wrapped f) to from w u v old new world after) world (sinks to from w u v0 v old new world at at_from e0 e h0 h clear)
    (λ x after z. record {
      left = z.left;
      has = of_wrapped z.has;
      nothing = of_wrapped z.nothing;
      there = z.there;
      behind = z.behind;
      elsewhere = z.elsewhere;
      loses = z.loses;
      once = z.once;
    })

mutual
  pub sinks : (f : Form) → Sinks f
  sinks plain = plain_sinks
  sinks reference = reference_sinks
  sinks block = text_sinks
  sinks (elements f) = sequence_sinks f
  sinks (row n f) = row_sinks n f (sinks f)
  sinks (parts fs) = parts_sink fs (all_sink fs)
  sinks (resource fs) = resource_sinks fs
  sinks (wrapped f) = wrapped_sinks f (sinks f)

  all_sink : (fs : Forms) → AllSinks fs
  all_sink no_forms = no_more_sinks
  all_sink (forms f fs) = more_sinks f fs (sinks f) (all_sink fs)
