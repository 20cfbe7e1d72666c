-- The last element of a sequence at a location goes: what holds of homes then is what holds in the meaning's world behind the deed.
use Rattle.std.proofs.Common.{◌≡◌, ℕ, suc, [], Option, Some, Bool, true, false, refl, sym, ap, subst, ◌∙◌}
use Rattle.std.proofs.lemmas.Bool.{and_parts}
use Rattle.std.proofs.lemmas.Option.{none-some, same_Some}
use Rattle.nim_types.specs.Forms.{Form, size as form_size}
use Rattle.nim_meaning.specs.Values.{Value, Handle, Location, first_of, nth, block_of, is_full, item_of}
use Rattle.nim_meaning.specs.Heap.{Contents, Elements, block_at, with_contents}
use Rattle.nim_meaning.specs.State.{World, load, store, elements_of, contents_value, is_live, is_there, is_seen, is_full_at}
use Rattle.nim_meaning.specs.Deeds.{Deed, Gives, Errs, Changes, Stores, Refills, Done, behind, perform, branch, ◌>>◌, sets, refills, give}
use Rattle.nim_meaning.specs.OwnedRows.{shortened}
use Rattle.word_lowering.proofs.FullValues.{full_nth}
use Rattle.word_lowering.proofs.ResizedWorlds.{answered, behind_answers}
use Rattle.word_lowering.proofs.FreshRows.{answer, behind_answer}

-- ---- the world behind the deed, and its answer

module _ (of : Form) (n k : ℕ) (location : Location) (w after : World) (here : load w location ≡ Handle (suc n) (Some k)) where
  abbrev left : Contents
  left = Elements (first_of n (elements_of w (load w location)))

  abbrev pub popped_world : World
  popped_world = store (record w { heap = with_contents w.heap k (Elements (first_of n (elements_of w (load w location)))) }) location (Handle n (Some k))

  pub record IsShorter (done : Done Value) : Type 0 where
    pub live : is_there (record w { heap = with_contents w.heap k (Elements (first_of n (elements_of w (load w location)))) }) location ≡ true
    pub is : popped_world ≡ after
    pub value : answer done ≡ Some (nth (elements_of w (load w location)) n)
    pub full : is_full (nth (elements_of w (load w location)) n) ≡ true

  abbrev item : Location
  item = item_of (load w location) location n

  abbrev last : Value
  last = load w item

  last_is : is_full last ≡ true → last ≡ nth (elements_of w (load w location)) n
  last_is full =
      ap (λ v. load w (item_of v location n)) here
      ∙ full_nth (contents_value (block_at w.heap k)) n (subst (λ v. is_full (load w (item_of v location n)) ≡ true) here full)
      ∙ sym (ap (λ v. nth (elements_of w v) n) here)

  abbrev rest : Option ℕ → Deed Value
  rest q = refills q (Elements (first_of n (elements_of w (load w location)))) >> (sets location (Handle n q) >> give last)

  abbrev mid : World
  mid = record w { heap = with_contents w.heap k (Elements (first_of n (elements_of w (load w location)))) }

  put_done : is_full last ≡ true → (b : Bool) → is_there mid location ≡ b
      → answered (perform (branch b (Changes (Stores location (Handle n (Some k))) (Gives (tt {0}))) Errs >> give last) mid) ≡ Some after
      → IsShorter (perform (branch b (Changes (Stores location (Handle n (Some k))) (Gives (tt {0}))) Errs >> give last) mid)
  put_done full true e h = record {
    live = e;
    is = same_Some (store mid location (Handle n (Some k))) after h;
    value = ap (λ v. Some v) (last_is full);
    full = ap is_full (sym (last_is full)) ∙ full;
  }
  put_done full false e h = absurd (none-some after h)

  rest_done : is_full last ≡ true → answered (perform (rest (Some k)) w) ≡ Some after → IsShorter (perform (rest (Some k)) w)
  rest_done full h = by (is_live w k) h
    where
      by : (b : Bool)
          → answered (perform (branch b (Changes (Refills k left) (Gives (tt {0}))) Errs >> (sets location (Handle n (Some k)) >> give last)) w) ≡ Some after
          → IsShorter (perform (branch b (Changes (Refills k left) (Gives (tt {0}))) Errs >> (sets location (Handle n (Some k)) >> give last)) w)
      by true h = put_done full (is_there mid location) refl h
      by false h = absurd (none-some after h)

  pub shorter_world : answered (perform (shortened of (suc n) location w) w) ≡ Some after → IsShorter (perform (shortened of (suc n) location w) w)
  shorter_world h = by (is_full_at w item) refl h
    where
      by : (b : Bool) → is_full_at w item ≡ b → answered (behind [] (form_size of) (perform (branch b (rest (block_of (load w location))) Errs) w)) ≡ Some after
          → IsShorter (behind [] (form_size of) (perform (branch b (rest (block_of (load w location))) Errs) w))
      by false e h = absurd (none-some after h)
      by true e h =
          let q : block_of (load w location) ≡ Some k = ap block_of here in
          let first : answered (perform (rest (Some k)) w) ≡ Some after
          = subst (λ o. answered (perform (rest o) w) ≡ Some after) q
          (sym (behind_answers [] (form_size of) (perform (rest (block_of (load w location))) w)) ∙ h) in
          let x = rest_done (and_parts (is_seen w item) (is_full last) e).1 first in
          record {
            live = x.live;
            is = x.is;
            value = behind_answer [] (form_size of) (perform (rest (block_of (load w location))) w)
                ∙ ap (λ o. answer (perform (rest o) w)) q ∙ x.value;
            full = x.full;
          }
