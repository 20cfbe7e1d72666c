-- Values at two locations trade places: what the line does is followed.
use Rattle.std.proofs.Common.{◌≡◌, ℕ, ◌+◌, List, [], ◌∷◌, Option, Some, None, Bool, true, false, refl, sym, ap, ap₂, subst, ◌∙◌, arith}
use Rattle.std.proofs.lemmas.Bool.{and_parts, eq-eqb}
use Rattle.std.specs.Prelude.{option_map, nat_eq, ◌&&◌, ◌||◌}
use Rattle.nim_types.specs.Types.{Ty}
use Rattle.nim_types.specs.Table.{facts_in}
use Rattle.flat_code.specs.declared.line.UseAt.{UseAt}
use Rattle.nim_program.specs.Kinds.{same_value}
use Rattle.nim_program.specs.View.{if_type}
use Rattle.nim_meaning.specs.Values.{Value, bytes, nothing, Location, At, location_of}
use Rattle.nim_meaning.specs.State.{World, is_full_at, is_there, load, store}
use Rattle.nim_meaning.specs.Deeds.{Answers, Deed, Stores, behind, costs, does, give, perform, sets, unless_gone, ◌>>=◌, ◌>>◌}
use Rattle.nim_meaning.specs.Places.{changes, exchanged, kept_if, may_change}
use Rattle.nim_meaning.specs.Table.{swapped}
use Rattle.flat_code.specs.declared.block.BlockLine.{BlockLine}
use Rattle.flat_code.specs.declared.line.From.{From}
use Rattle.flat_code.specs.Codes.{block_plain}
use Rattle.flat_code.specs.Fits.{if_kind, is_location, is_standing, place_named}
use Rattle.flat_code.specs.Lines.{gives, using}
use Rattle.flat_code.specs.Running.{scene_of}
use Rattle.flat_code.specs.Scene.{Where, Temps, Did, Passes, location_at, with_value}
use Rattle.flat_code.specs.Shapes.{Shape, shape_of}
use Rattle.word_lowering.specs.declared.homes.Home.{Home}
use Rattle.word_lowering.specs.Aliases.{handed_by, is_among, places_in}
use Rattle.word_lowering.specs.LineCode.{location, swap_code}
use Rattle.word_lowering.proofs.AddressFacts.{handed_at}
use Rattle.word_lowering.proofs.ApplyFits.{applies, RowHere}
use Rattle.word_lowering.proofs.ControlLines.{plain, value_type}
use Rattle.word_lowering.proofs.Gets.{SameTemps}
use Rattle.word_lowering.proofs.LetterSwaps.{Trades, letters_trade}
use Rattle.word_lowering.proofs.LineFits.{are_of, no_type, same_type}
use Rattle.word_lowering.proofs.Lines.{Basis, IsGood, Settles, all_sites, known, mapped_settles, bound_for, starts, where_there}
use Rattle.word_lowering.proofs.LocationHouses.{location_house}
use Rattle.word_lowering.proofs.Moves.{IsHigh}
use Rattle.word_lowering.proofs.OutPlaces.{written_at, written_stands}
use Rattle.word_lowering.proofs.Related.{Both, body_of, high}
use Rattle.word_lowering.proofs.GoodLeads.{owned_seen}
use Rattle.word_lowering.proofs.Located.{full_there}
use Rattle.word_lowering.proofs.Scenes.{FromOwned, Reaches, Points, looked, of_location}
use Rattle.word_lowering.proofs.Settling.{LabelsLead, code_here, code_next}
use Rattle.word_lowering.proofs.ShapeFacts.{is_letter, letter_is, never, of_numbers, shape_bytes}
use Rattle.word_lowering.proofs.Sites.{Site, around}
use Rattle.word_lowering.proofs.Scenes.{IsStood, ReachesHere, may_owned, stored_here}
use Rattle.word_lowering.proofs.StoreLines.{none_temps}
use Rattle.word_lowering.proofs.Targets.{pointed}
use Rattle.word_lowering.proofs.ValueFacts.{location_of_numbers, type_in, IsPlain}
use Rattle.word_lowering.proofs.SwapBits.{swap_settles}
use Rattle.nim_program.specs.declared.operation.Operation.TheVariants as O
use Rattle.flat_code.specs.declared.line.From.TheVariants as F
use Rattle.flat_code.specs.declared.line.Line.TheVariants as L

-- ---- a location that the line hands on

module _ (x : Basis) (g : Both) (line : BlockLine) (rest : List BlockLine) (y : IsGood x (starts g line rest)) (ty : Ty) where
  abbrev sites : List Site
  sites = all_sites x g line rest y

  abbrev shape : Shape
  shape = shape_of (facts_in x.table) ty

  abbrev house_of : ℕ → Home
  house_of t = (location (around x.table x.blocks (body_of g)) t).home

  pub record End (t : ℕ) (there : Where) : Type 0 where
    pub at_location : Location
    pub is : location_at g.call.temps there ≡ at_location
    pub high_is : IsHigh (house_of t)
    pub address : ℕ
    pub points : Points g.call.site.base g.call.vars (house_of t) address
    pub stood : IsStood at_location.base
    pub leads : ReachesHere x.table x.blocks sites g.ground g.world at_location address shape
    pub numbers : of_numbers shape ≡ true
    pub long : (location (around x.table x.blocks (body_of g)) t).bytes ≡ shape_bytes shape
    pub letter : (location (around x.table x.blocks (body_of g)) t).is_letter ≡ is_letter shape

  end_at : (t : ℕ) (there : Where) → IsPlain x g.call.site (of_location t) → type_in x is_location (body_of g) t ≡ Some ty
      → if_kind is_standing (place_named is_location (body_of g).proc.places t) ≡ true → is_among t (places_in (handed_by (block_plain line))) ≡ true
      → g.call.temps.places t ≡ Some there → End t there
  end_at t there plain typed may handed e =
      let p = pointed x g line rest y t ty typed in
      let standing = y.linked.0.standing t may in
      let w = written_at x g line rest y t there p.named standing e in
      let l : Location = w.location_is in
      let a = handed_at x g line rest y t there p.named plain e standing handed in
      let leads : ReachesHere x.table x.blocks sites g.ground g.world l a.address shape
      = subst (λ s. ReachesHere x.table x.blocks sites g.ground g.world l a.address s) p.look
      (subst (λ k. Reaches x.table x.blocks sites g.ground g.world g.call.site g.call.temps k a.address (looked x.table g.call.site (of_location t))) w.is
      a.reaches) in
      let h = location_house x g line rest y t there p.named plain e in
      record {
        at_location = l;
        is = ap (location_at g.call.temps) w.is;
        high_is = subst IsHigh (sym a.home_is) a.high_is;
        address = a.address;
        points = subst (λ h. Points g.call.site.base g.call.vars h a.address) (sym a.home_is) a.points;
        stood = written_stands x g line rest y w.written;
        leads = leads;
        numbers = sym (ap of_numbers p.look) ∙ location_of_numbers x g.call.site t y.linked.0 p.named plain;
        long = sym h.housed.bytes ∙ ap shape_bytes (ap (shape_of (facts_in x.table)) h.typed ∙ p.look);
        letter = sym h.housed.letter ∙ ap is_letter (ap (shape_of (facts_in x.table)) h.typed ∙ p.look);
      }

  module _ (left right : ℕ) (here there : Where) (e : End left here) (f : End right there) (temps : Temps) (same_at : SameTemps x g line rest y temps)
      (full_left : is_full_at g.world e.at_location ≡ true) (full_right : is_full_at g.world f.at_location ≡ true) where
    leads_at : {t : ℕ} {where_to : Where} (h : End t where_to) → may_change h.at_location.base ≡ true → is_full_at g.world h.at_location ≡ true
        → is_letter shape ≡ false
        → FromOwned x.table sites g.ground g.world h.at_location h.address shape
    leads_at h may full other =
        owned_seen x (starts g line rest) y h.at_location h.address shape (may_owned h.at_location.base h.stood may)
        (stored_here x.table x.blocks sites g.ground g.world h.at_location h.address shape other h.leads)
        (full_there x (starts g line rest) y h.at_location full).1

    trades_at : {t : ℕ} {where_to : Where} (h : End t where_to) → may_change h.at_location.base ≡ true → is_full_at g.world h.at_location ≡ true
        → is_letter shape ≡ true
        → Trades x g line rest y h.at_location (house_of t)
    trades_at h may full is = record {
      high = h.high_is;
      address = h.address;
      points = h.points;
      owned = may_owned h.at_location.base h.stood may;
      leads = subst (ReachesHere x.table x.blocks sites g.ground g.world h.at_location h.address) (letter_is shape is) h.leads;
      full = full;
    }

    pub both_settle : may_change e.at_location.base ≡ true → may_change f.at_location.base ≡ true
        → is_full_at (store g.world f.at_location (load g.world e.at_location)) e.at_location ≡ true
        → is_there (store g.world f.at_location (load g.world e.at_location)) e.at_location ≡ true → code_here x g line rest y
        ≡ swap_code (location (around x.table x.blocks (body_of g)) left).is_letter (house_of left) (house_of right)
        (location (around x.table x.blocks (body_of g)) left).bytes (code_next x g line rest y)
        → Settles x (starts g line rest) rest (Passes (Answers []
        (1 + (bytes (load g.world e.at_location) + (bytes (load g.world f.at_location) + 0))) temps
        (store (store g.world f.at_location (load g.world e.at_location)) e.at_location (load g.world f.at_location))))
    both_settle may_one may_other full_then live_then code =
        by (is_letter shape) refl
        (code ∙ ap₂ (λ b n. swap_code b (house_of left) (house_of right) n (code_next x g line rest y)) e.letter e.long)
      where
        by : (b : Bool) → is_letter shape ≡ b → code_here x g line rest y
            ≡ swap_code (is_letter shape) (house_of left) (house_of right) (shape_bytes shape) (code_next x g line rest y)
            → Settles x (starts g line rest) rest (Passes (Answers []
            (1 + (bytes (load g.world e.at_location) + (bytes (load g.world f.at_location) + 0))) temps
            (store (store g.world f.at_location (load g.world e.at_location)) e.at_location (load g.world f.at_location))))
        by true is lines =
            letters_trade x g line rest y e.at_location f.at_location (house_of left) (house_of right) (trades_at e may_one full_left is)
            (trades_at f may_other full_right is) temps same_at full_then
            (lines ∙ ap (λ b. swap_code b (house_of left) (house_of right) (shape_bytes shape) (code_next x g line rest y)) is)
            (1 + (bytes (load g.world e.at_location) + (bytes (load g.world f.at_location) + 0))) (omega arith)
        by false other lines =
            swap_settles x g line rest y e.at_location f.at_location shape (house_of left) (house_of right)
            (record { high = e.high_is; address = e.address; points = e.points; owned = leads_at e may_one full_left other })
            (record { high = f.high_is; address = f.address; points = f.points; owned = leads_at f may_other full_right other }) temps same_at full_left
            full_right
            live_then (lines ∙ ap (λ b. swap_code b (house_of left) (house_of right) (shape_bytes shape) (code_next x g line rest y)) other)

-- ---- the line

among_first : (n : ℕ) (ms : List ℕ) → is_among n (n ∷ ms) ≡ true
among_first n ms = ap (λ b. b || is_among n ms) (eq-eqb n n refl)

among_more : (n m : ℕ) (ms : List ℕ) → is_among n ms ≡ true → is_among n (m ∷ ms) ≡ true
among_more n m ms h = by (nat_eq m n)
  where
    by : (b : Bool) → (b || is_among n ms) ≡ true
    by true = refl
    by false = h

module _ (x : Basis) (labels : LabelsLead x) (g : Both) (rest : List BlockLine) (to : ℕ) (how : UseAt) where
  module _ (a b : Option ℕ) (left right : ℕ) where
    abbrev swapping : BlockLine
    swapping = plain (L.Apply to O.Swap how None (a ∷ b ∷ []) (F.Place left ∷ F.Place right ∷ []))

    abbrev location_type : ℕ → Option Ty
    location_type t = type_in x is_location (body_of g) t

    abbrev may_write : ℕ → Bool
    may_write t = if_kind is_standing (place_named is_location (body_of g).proc.places t)

    -- what the line does, by a deed, and what it does behind the first of both
    abbrev given : Deed Value → Did
    given deed = gives (scene_of (high x.table x.blocks (starts g swapping rest))) to (costs 1 deed >>= kept_if false (bound_for g how))

    abbrev given_then : (first second : Value) → World → Deed Value → Did
    given_then first second world_then deed = Passes (behind [] 1 (behind [] (bytes first) (perform
        (((costs (bytes second) deed >> give nothing) >>= kept_if false (bound_for g how)) >>= (λ u. give (with_value to g.call.temps u))) world_then)))

    -- both are there all the time, or the meaning is at a fault
    module _ (one other : Location) where
      abbrev first : Value
      first = load g.world one

      abbrev second : Value
      second = load g.world other

      abbrev world_then : World
      world_then = store g.world other first

      abbrev Done : Did → Type 0
      Done did = Settles x (starts g swapping rest) rest did

      where_seen : (is_full_at g.world one ≡ true → is_full_at g.world other ≡ true → is_full_at world_then one ≡ true → is_there world_then one ≡ true
          → may_change one.base ≡ true → may_change other.base ≡ true
          → Done (Passes (Answers [] (1 + (bytes first + (bytes second + 0))) (with_value to g.call.temps nothing) (store world_then one second))))
          → Done (given (swapped one other))
      where_seen d =
          where_there x (starts g swapping rest) rest (is_full_at g.world one)
          (λ b. given (unless_gone b (exchanged other first) >>= (λ u. exchanged one u >> give nothing))) (λ before. tt)
          (λ full. where_there x (starts g swapping rest) rest (is_full_at g.world other)
          (λ b. given (costs (bytes first) (unless_gone b (changes other first >> give second)) >>= (λ u. exchanged one u >> give nothing))) (λ before. tt)
          (λ full_other. where_there x (starts g swapping rest) rest (may_change other.base)
          (λ b. given (costs (bytes first) (unless_gone b (sets other first) >> give second) >>= (λ u. exchanged one u >> give nothing))) (λ before. tt)
          (λ may_other. where_there x (starts g swapping rest) rest (is_there g.world other)
          (λ b. given (costs (bytes first) (unless_gone b (does (Stores other first)) >> give second) >>= (λ u. exchanged one u >> give nothing)))
          (λ before. tt)
          (λ h. where_there x (starts g swapping rest) rest (is_full_at world_then one)
          (λ b. given_then first second world_then (unless_gone b (changes one second >> give (load world_then one)))) (λ before. tt)
          (λ full_then. where_there x (starts g swapping rest) rest (may_change one.base)
          (λ b. given_then first second world_then (unless_gone b (sets one second) >> give (load world_then one))) (λ before. tt)
          (λ may_one. where_there x (starts g swapping rest) rest (is_there world_then one)
          (λ b. given_then first second world_then (unless_gone b (does (Stores one second)) >> give (load world_then one))) (λ before. tt)
          (λ live. d full full_other full_then live may_one may_other)))))))

    swap_values : RowHere x g rest to O.Swap how None (a ∷ b ∷ []) (F.Place left ∷ F.Place right ∷ [])
    swap_values names y =
        let f = applies x g rest to O.Swap how None (a ∷ b ∷ []) (F.Place left ∷ F.Place right ∷ []) names y in
        let none = none_temps x g swapping rest y to (no_type (value_type x g swapping rest y to) f.given) in
        let w = are_of (if_type (known x).types a) (if_type (known x).types b) f.row in
        let p = and_parts (same_value (location_type left) (if_type (known x).types a))
        (same_value (location_type right) (if_type (known x).types b) && true) f.typed in
        let q = and_parts (same_value (location_type right) (if_type (known x).types b)) true p.1 in
        let left_typed = same_type (location_type left) (if_type (known x).types a) p.0 ∙ w.is in
        let right_typed = same_type (location_type right) (if_type (known x).types b) q.0 ∙ w.is_other in
        let may = and_parts (may_write left) (may_write right && true) f.written in
        let may_right = and_parts (may_write right) true may.1 in
        mapped_settles x (starts g swapping rest) rest (g.call.temps.places left) (λ place. At (location_at g.call.temps place))
        (λ l. using (option_map (λ place. At (location_at g.call.temps place)) (g.call.temps.places right))
        (λ m. gives (scene_of (high x.table x.blocks (starts g swapping rest))) to
        (costs 1 (swapped (location_of l) (location_of m)) >>= kept_if false (bound_for g how))))
        (λ here e. mapped_settles x (starts g swapping rest) rest (g.call.temps.places right) (λ place. At (location_at g.call.temps place))
        (λ m. gives (scene_of (high x.table x.blocks (starts g swapping rest))) to
        (costs 1 (swapped (location_at g.call.temps here) (location_of m)) >>= kept_if false (bound_for g how)))
        (λ there h.
        let l = end_at x g swapping rest y w.ty left here names.1.0 left_typed may.0 (among_first left (right ∷ [])) e in
        let m = end_at x g swapping rest y w.ty right there names.1.1.0 right_typed may_right.0 (among_more right left (right ∷ []) (among_first right [])) h in
        subst (λ k. Settles x (starts g swapping rest) rest (gives (scene_of (high x.table x.blocks (starts g swapping rest))) to
        (costs 1 (swapped k (location_at g.call.temps there)) >>= kept_if false (bound_for g how)))) (sym l.is)
        (subst (λ k. Settles x (starts g swapping rest) rest (gives (scene_of (high x.table x.blocks (starts g swapping rest))) to
        (costs 1 (swapped l.at_location k) >>= kept_if false (bound_for g how)))) (sym m.is)
        (where_seen l.at_location m.at_location
        (λ full full_other full_then live may_one may_other.
        both_settle x g swapping rest y w.ty left right here there l m (with_value to g.call.temps nothing) none full full_other may_one may_other full_then
        live refl)))))

  pub swap_line : (ty : Option ℕ) (of : List (Option ℕ)) (from : List From) → RowHere x g rest to O.Swap how ty of from
  swap_line None (a ∷ b ∷ []) (F.Place left ∷ F.Place right ∷ []) names y = swap_values a b left right names y
  swap_line (Some ty) of from names y = never (applies x g rest to O.Swap how (Some ty) of from names y).row
  swap_line None [] from names y = never (applies x g rest to O.Swap how None [] from names y).row
  swap_line None (a ∷ []) from names y = never (applies x g rest to O.Swap how None (a ∷ []) from names y).row
  swap_line None (a ∷ b ∷ c ∷ of) from names y = never (applies x g rest to O.Swap how None (a ∷ b ∷ c ∷ of) from names y).row
  swap_line None (a ∷ b ∷ []) [] names y = never (applies x g rest to O.Swap how None (a ∷ b ∷ []) [] names y).placed
  swap_line None (a ∷ b ∷ []) (F.Value t ∷ others) names y = never (applies x g rest to O.Swap how None (a ∷ b ∷ []) (F.Value t ∷ others) names y).placed
  swap_line None (a ∷ b ∷ []) (F.Place left ∷ []) names y = never (applies x g rest to O.Swap how None (a ∷ b ∷ []) (F.Place left ∷ []) names y).placed
  swap_line None (a ∷ b ∷ []) (F.Place left ∷ F.Value t ∷ others) names y =
      never (applies x g rest to O.Swap how None (a ∷ b ∷ []) (F.Place left ∷ F.Value t ∷ others) names y).placed
  swap_line None (a ∷ b ∷ []) (F.Place left ∷ F.Place right ∷ other ∷ others) names y =
      never (and_parts (same_value (type_in x is_location (body_of g) right) (if_type (known x).types b)) false
      (and_parts (same_value (type_in x is_location (body_of g) left) (if_type (known x).types a))
      (same_value (type_in x is_location (body_of g) right) (if_type (known x).types b) && false)
      (applies x g rest to O.Swap how None (a ∷ b ∷ []) (F.Place left ∷ F.Place right ∷ other ∷ others) names y).typed).1).1
