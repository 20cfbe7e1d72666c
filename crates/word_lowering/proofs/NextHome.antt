-- The homes of places, one after another, and the layout that comes of them.
use Rattle.std.proofs.Common.{◌≡◌, ℕ, ◌≤◌, ◌==◌, Bool, not, List, [], ◌++◌, length, drop, map}
use Rattle.std.proofs.Common.{sym, ap, ◌∙◌, append-nil}
use Rattle.std.proofs.lemmas.List.{drop_all}
use Rattle.nim_types.specs.declared.types.TypeDef.{TypeDef}
use Rattle.flat_code.specs.declared.line.Line.{Line}
use Rattle.flat_code.specs.declared.place.FlatPlace.{FlatPlace}
use Rattle.flat_code.specs.declared.block.BlockLine.{BlockLine}
use Rattle.flat_code.specs.Codes.{block_plain}
use Rattle.word_lowering.specs.declared.homes.Free.{Free}
use Rattle.word_lowering.specs.declared.homes.Housed.{Housed}
use Rattle.word_lowering.specs.declared.homes.Waiter.{Waiter}
use Rattle.word_lowering.specs.declared.homes.Layout.{Layout}
use Rattle.word_lowering.specs.Layouts.{free_at, all_housed, behind_all, behind_waiters, waiters, laid}
use Rattle.word_lowering.proofs.NextLayout.{empty_is}

module _ (table : List TypeDef) (start : Bool) (lines : List Line) (places : List FlatPlace) (i : ℕ) where
  pub last_home : (made all : List Housed) (free : Free) → length places ≤ i → made ++ all_housed table start lines free (drop i places) ≡ all
      → made ≡ all
  last_home made all free le before =
      sym (append-nil made) ∙ ap (λ (ps : List FlatPlace). made ++ all_housed table start lines free ps) (sym (drop_all i places le)) ∙ before

  pub last_behind : (all free : Free) → length places ≤ i → behind_all table start lines free (drop i places) ≡ all → free ≡ all
  last_behind all free le before =
      ap (λ (ps : List FlatPlace). behind_all table start lines free ps) (sym (drop_all i places le)) ∙ before

abbrev made : List Housed → List Waiter → Free → Bool → Layout
made all ws free runs = record { all = all; waiters = ws; free = free; runs = runs }

-- from what the code has made
pub laid_as : (table : List TypeDef) (start : Bool) (datum : ℕ) (lines : List BlockLine) (places : List FlatPlace)
    (first homes all : List Housed) (free : Free) (none ws : List Waiter) (last : Free) (runs : Bool) → first ≡ []
    → homes ≡ first ++ all_housed table start (map block_plain lines) (free_at datum) places
    → free ≡ behind_all table start (map block_plain lines) (free_at datum) places
    → none ≡ [] → ws ≡ none ++ waiters free homes → last ≡ behind_waiters free homes
    → all ≡ homes → runs ≡ not (length lines == 0) → made all ws last runs ≡ laid table start datum lines places
laid_as table start datum lines places first homes all free none ws last runs f h b n w l a r =
    let ls = map block_plain lines in
    let own : List Housed = all_housed table start ls (free_at datum) places in
    let behind : Free = behind_all table start ls (free_at datum) places in
    let is : homes ≡ own = h ∙ ap (λ (hs : List Housed). hs ++ own) f in
    ap (λ (hs : List Housed). made hs ws last runs) (a ∙ is)
    ∙ ap (λ (us : List Waiter). made own us last runs)
    (w ∙ ap (λ (us : List Waiter). us ++ waiters free homes) n ∙ ap (waiters free) is ∙ ap (λ (g : Free). waiters g own) b)
    ∙ ap (λ (g : Free). made own (waiters behind own) g runs) (l ∙ ap (behind_waiters free) is ∙ ap (λ (g : Free). behind_waiters g own) b)
    ∙ ap (λ (c : Bool). made own (waiters behind own) (behind_waiters behind own) c) (r ∙ ap not (empty_is lines))
