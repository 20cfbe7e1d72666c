-- The homes of both states that belong together: places with a value of their own, and values of temporaries, that are in memory.
use Rattle.std.proofs.Common.{◌≡◌, ◌≢◌, ◌⊎◌, inl, inr, ℕ, List, [], ◌∷◌, map}
use Rattle.std.proofs.Common.{refl, sym, ap, subst, ◌∙◌, arith}
use Rattle.nim_meaning.specs.Values.{Value, Standing, Waiting, Made}
use Rattle.nim_meaning.specs.State.{World, held, awaited}
use Rattle.word_code.specs.RoutineTable.{Beside}
use Rattle.word_lowering.proofs.BaseValues.{InFrame, Differ}
use Rattle.word_lowering.proofs.BlockHomes.{Home, home_bytes, SameOrApart, IsOutside, IsAtHome, HomesHold}
use Rattle.word_lowering.proofs.Gets.{frame_of_site}
use Rattle.word_lowering.proofs.Keeping.{AmongCalls, number_cases, name_cases, from_home}
use Rattle.word_lowering.proofs.Lines.{Basis, IsGood}
use Rattle.word_lowering.proofs.Options.{some_same}
use Rattle.word_lowering.proofs.Related.{Both, calls_of, sites_of, store_of}
use Rattle.word_lowering.proofs.Scenes.{is_fixed, address_of, Name, of_value, of_location, of_place, of_waiting, Call, site_of, house, HasValue, IsThere}
use Rattle.word_lowering.proofs.Scenes.{looked, Store}
use Rattle.word_lowering.proofs.Scenes.{Holding, AllHold}
use Rattle.word_lowering.proofs.Sites.{Site, AmongSites, InMemory, Linked}
use Rattle.word_lowering.proofs.SitesApart.{Beside as BesideOf, InRange, SiteAt, in_range, houses, site_at, ranges_apart}

pub among_sites : (cs : List Call) (c : Call) → AmongCalls c cs → AmongSites c.site (map site_of cs)
among_sites [] c i = absurd i
among_sites (d ∷ cs) c (inl e) = inl (ap site_of e)
among_sites (d ∷ cs) c (inr i) = inr (among_sites cs c i)

module _ (x : Basis) where
  -- a call is known by its level
  pub one_call : (cs : List Call) (c d : Call) → Linked x.table x.blocks (map site_of cs) → AmongCalls c cs → AmongCalls d cs → c.site.level ≡ d.site.level
      → c ≡ d
  one_call [] c d l i j is = absurd i
  one_call (b ∷ cs) c d l (inl e) (inl f) is = sym e ∙ f
  one_call (b ∷ cs) c d l (inl e) (inr j) is =
      absurd (let z = site_at x.table x.blocks (map site_of cs) d.site l.5 (among_sites cs d j) in
      let g : b.site.level ≡ c.site.level = ap (λ (k : Call). k.site.level) e in let m = z.level in let n = l.2 in omega (arith, g, is, m, n))
  one_call (b ∷ cs) c d l (inr i) (inl f) is =
      absurd (let z = site_at x.table x.blocks (map site_of cs) c.site l.5 (among_sites cs c i) in
      let g : b.site.level ≡ d.site.level = ap (λ (k : Call). k.site.level) f in let m = z.level in let n = l.2 in omega (arith, g, is, m, n))
  one_call (b ∷ cs) c d l (inr i) (inr j) is = one_call cs c d l.5 i j is

  -- what a call holds
  pub held_of : (k : Store) (w : World) (cs : List Call) (c : Call) → AllHold x.table x.blocks k w cs → AmongCalls c cs
      → (from : List Site) × Holding x.table x.blocks k w from c
  held_of k w [] c all i = absurd i
  held_of k w (d ∷ cs) c all (inl e) = (map site_of (d ∷ cs), subst (Holding x.table x.blocks k w (map site_of (d ∷ cs))) e all.0)
  held_of k w (d ∷ cs) c all (inr i) = held_of k w cs c all.1 i

  -- a name has one value
  one_value : (w : World) (c : Call) (e : Name) (v u : Value) → HasValue w c e v → HasValue w c e u → v ≡ u
  one_value w c (of_value t) v u h k = some_same v u (sym h ∙ k)
  one_value w c (of_location t) v u h k = absurd h
  one_value w c (of_place n) v u h k = ap held (sym h ∙ k)
  one_value w c (of_waiting n) v u h k = ap awaited (sym h ∙ k)

  module _ (g : Both) where
    -- the home of a name, with a base of the meaning
    abbrev pub home_at : Call → Name → Value → Home
    home_at c (of_value t) v = record {
      base = Made v;
      at = address_of c.site.base (house c.site (of_value t)).home;
      shape = looked x.table c.site (of_value t);
    }
    home_at c (of_location t) v = record { base = Made v; at = 0; shape = looked x.table c.site (of_location t) }
    home_at c (of_place n) v = record {
      base = Standing c.site.level n;
      at = address_of c.site.base (house c.site (of_place n)).home;
      shape = looked x.table c.site (of_place n);
    }
    home_at c (of_waiting n) v = record {
      base = Waiting c.site.level n;
      at = address_of c.site.base (house c.site (of_waiting n)).home;
      shape = looked x.table c.site (of_waiting n);
    }

    -- a name of one of these calls that has a value, in memory
    pub record HomeOf (h : Home) : Type 0 where
      pub call : Call
      pub among : AmongCalls call (calls_of g)
      pub name : Name
      pub there : IsThere call.site name
      pub inside : InMemory (house call.site name).home
      pub value : Value
      pub has : HasValue g.world call name value
      pub is : h ≡ home_at call name value

  module _ (g : Both) (y : IsGood x g) where
    abbrev sites : List Site
    sites = sites_of g

    -- ---- apart

    -- two of them are the same, or have other names
    same_or_other : (a b : Home) (p : HomeOf g a) (q : HomeOf g b) → (a ≡ b) ⊎ ((p.call.site.level ≢ q.call.site.level) ⊎ (p.name ≢ q.name))
    same_or_other a b p q = by p.call.site.level q.call.site.level (number_cases p.call.site.level q.call.site.level)
      where
        by : (k l : ℕ) → (p.call.site.level ≡ q.call.site.level) ⊎ (p.call.site.level ≢ q.call.site.level)
            → (a ≡ b) ⊎ ((p.call.site.level ≢ q.call.site.level) ⊎ (p.name ≢ q.name))
        by k l (inr ne) = inr (inl ne)
        by k l (inl e) = names (name_cases p.name q.name)
          where
            one : p.call ≡ q.call
            one = one_call (calls_of g) p.call q.call y.linked p.among q.among e

            names : (p.name ≡ q.name) ⊎ (p.name ≢ q.name) → (a ≡ b) ⊎ ((p.call.site.level ≢ q.call.site.level) ⊎ (p.name ≢ q.name))
            names (inr ne) = inr (inr ne)
            names (inl f) =
                let has : HasValue g.world q.call q.name p.value = subst (λ n. HasValue g.world q.call n p.value) f
                (subst (λ c. HasValue g.world c p.name p.value) one p.has) in
                let v : p.value ≡ q.value = one_value g.world q.call q.name p.value q.value has q.has in
                inl (p.is ∙ ap (λ c. home_at g c p.name p.value) one ∙ ap (λ n. home_at g q.call n p.value) f ∙ ap (home_at g q.call q.name) v ∙ sym q.is)

    bases_differ : (c d : Call) (e f : Name) (v w : Value) → IsThere c.site e → IsThere d.site f → (c.site.level ≢ d.site.level) ⊎ (e ≢ f)
        → Differ (home_at g c e v).base (home_at g d f w).base
    bases_differ c d (of_value t) f v w i j away = made f
      where
        made : (f : Name) → Differ (Made v) (home_at g d f w).base
        made (of_value u) = tt
        made (of_location u) = tt
        made (of_place n) = tt
        made (of_waiting n) = tt
    bases_differ c d (of_location t) f v w i j away = made f
      where
        made : (f : Name) → Differ (Made v) (home_at g d f w).base
        made (of_value u) = tt
        made (of_location u) = tt
        made (of_place n) = tt
        made (of_waiting n) = tt
    bases_differ c d (of_place n) (of_value u) v w i j away = tt
    bases_differ c d (of_place n) (of_location u) v w i j away = tt
    bases_differ c d (of_place n) (of_place k) v w i j (inl ne) = inl ne
    bases_differ c d (of_place n) (of_place k) v w i j (inr ne) = inr (λ e. ne (ap of_place e))
    bases_differ c d (of_place n) (of_waiting k) v w i j away = tt
    bases_differ c d (of_waiting n) (of_value u) v w i j away = tt
    bases_differ c d (of_waiting n) (of_location u) v w i j away = tt
    bases_differ c d (of_waiting n) (of_place k) v w i j away = tt
    bases_differ c d (of_waiting n) (of_waiting k) v w i j (inl ne) = inl ne
    bases_differ c d (of_waiting n) (of_waiting k) v w i j (inr ne) = inr (λ e. ne (ap of_waiting e))

    turned : (c d : Call) (e f : Name) → (c.site.level ≢ d.site.level) ⊎ (e ≢ f) → (d.site.level ≢ c.site.level) ⊎ (f ≢ e)
    turned c d e f (inl ne) = inl (λ is. ne (sym is))
    turned c d e f (inr ne) = inr (λ is. ne (sym is))

    pub home_is : (c : Call) (e : Name) (v : Value) → AmongCalls c (calls_of g) → IsThere c.site e → HasValue g.world c e v
        → ((home_at g c e v).at ≡ address_of c.site.base (house c.site e).home) × (home_bytes (home_at g c e v) ≡ (house c.site e).bytes)
    home_is c (of_value t) v i there has =
        (refl, (houses x.table x.blocks c.site (of_value t) (site_at x.table x.blocks sites c.site y.linked (among_sites (calls_of g) c i)).body there).bytes)
    home_is c (of_location t) v i there has = absurd has
    home_is c (of_place n) v i there has =
        (refl, (houses x.table x.blocks c.site (of_place n) (site_at x.table x.blocks sites c.site y.linked (among_sites (calls_of g) c i)).body there).bytes)
    home_is c (of_waiting n) v i there has =
        (refl, (houses x.table x.blocks c.site (of_waiting n) (site_at x.table x.blocks sites c.site y.linked (among_sites (calls_of g) c i)).body there).bytes)

    pub homes_apart : (a b : Home) → HomeOf g a → HomeOf g b → SameOrApart a b
    homes_apart a b p q = by (same_or_other a b p q)
      where
        by : (a ≡ b) ⊎ ((p.call.site.level ≢ q.call.site.level) ⊎ (p.name ≢ q.name)) → SameOrApart a b
        by (inl e) = inl e
        by (inr away) =
            let r = ranges_apart x.table x.blocks x.small sites p.call.site q.call.site p.name q.name y.linked (among_sites (calls_of g) p.call p.among)
            (among_sites (calls_of g) q.call q.among) p.there q.there p.inside q.inside away in
            let m = home_is p.call p.name p.value p.among p.there p.has in
            let n = home_is q.call q.name q.value q.among q.there q.has in
            let there : Beside (home_at g p.call p.name p.value).at (home_bytes (home_at g p.call p.name p.value))
            (home_at g q.call q.name q.value).at (home_bytes (home_at g q.call q.name q.value)) = ranges r m n in
            subst (λ h. SameOrApart h b) (sym p.is) (subst (λ h. SameOrApart (home_at g p.call p.name p.value) h) (sym q.is) (inr (record {
              bases = bases_differ p.call q.call p.name q.name p.value q.value p.there q.there away;
              bases_turned = bases_differ q.call p.call q.name p.name q.value p.value q.there p.there (turned p.call q.call p.name q.name away);
              ranges = there;
            })))
          where
            ranges : BesideOf (address_of p.call.site.base (house p.call.site p.name).home) (house p.call.site p.name).bytes
                (address_of q.call.site.base (house q.call.site q.name).home) (house q.call.site q.name).bytes
                → ((home_at g p.call p.name p.value).at ≡ address_of p.call.site.base (house p.call.site p.name).home)
                × (home_bytes (home_at g p.call p.name p.value) ≡ (house p.call.site p.name).bytes)
                → ((home_at g q.call q.name q.value).at ≡ address_of q.call.site.base (house q.call.site q.name).home)
                × (home_bytes (home_at g q.call q.name q.value) ≡ (house q.call.site q.name).bytes)
                → Beside (home_at g p.call p.name p.value).at (home_bytes (home_at g p.call p.name p.value))
                (home_at g q.call q.name q.value).at (home_bytes (home_at g q.call q.name q.value))
            ranges (inl h) m n = inl (omega (arith, h, m.0, m.1, n.0, n.1))
            ranges (inr h) m n = inr (omega (arith, h, m.0, m.1, n.0, n.1))

    -- ---- what stands there

    pub in_frame_of : (c : Call) (n : ℕ) → AmongCalls c (calls_of g) → IsThere c.site (of_place n) → InFrame g.world c.site.level n
    in_frame_of c n i there =
        let s = among_sites (calls_of g) c i in
        let bounds = (site_at x.table x.blocks sites c.site y.linked s).body.inside n
        (record { among = there.among; number = there.number; kind = there.kind }) in
        record {
          first = c.site.body.proc.first;
          span = c.site.body.proc.span;
          frame = frame_of_site x sites y.linked g.world sites c.site y.frames s;
          low = bounds.0;
          high = bounds.1;
        }

    pub outside : (c : Call) (e : Name) → AmongCalls c (calls_of g) → IsThere c.site e → InMemory (house c.site e).home → (a n : ℕ)
        → a ≡ address_of c.site.base (house c.site e).home → n ≡ (house c.site e).bytes → IsOutside g.memory a n
    outside c e i there inside a n is long =
        by (in_range x.table x.blocks c.site (house c.site e) (houses x.table x.blocks c.site e s.body there) inside)
      where
        s : SiteAt x.table x.blocks (sites_of g) c.site
        s = site_at x.table x.blocks (sites_of g) c.site y.linked (among_sites (calls_of g) c i)

        by : InRange x.table x.blocks c.site (address_of c.site.base (house c.site e).home) (house c.site e).bytes → IsOutside g.memory a n
        by (inl r) = let d = x.small in record {
          heap = inr (omega (arith, is, long, r.2, d));
          own = inl (omega (arith, is, r.1));
          room = inl (omega (arith, is, r.1));
        }
        by (inr r) = let h = s.least in let most = y.memory.sized.heap_most in record {
          heap = inl (omega (arith, is, r.0, h, most));
          own = inl (omega (arith, is, r.0, h));
          room = inl (omega (arith, is, r.0, h));
        }

    stands_at : (c : Call) (e : Name) (v : Value) → AmongCalls c (calls_of g) → IsThere c.site e → InMemory (house c.site e).home
        → HasValue g.world c e v → IsAtHome (is_fixed g.ground) g.ground.blocks g.world g.memory (home_at g c e v)
    stands_at c (of_value t) v i there inside has =
        let item = (held_of (store_of g) g.world (calls_of g) c y.hold i).1.items (of_value t) v there has in
        let m = home_is c (of_value t) v i there has in
        record {
          value = v;
          holds = refl;
          stored = from_home (store_of g) c.site.base c.vars (looked x.table c.site (of_value t)) (house c.site (of_value t)) v item.plain inside item.at;
          elsewhere = outside c (of_value t) i there inside _ _ m.0 m.1;
        }
    stands_at c (of_location t) v i there inside has = absurd has
    stands_at c (of_place n) v i there inside has =
        let item = (held_of (store_of g) g.world (calls_of g) c y.hold i).1.items (of_place n) v there has in
        let m = home_is c (of_place n) v i there has in
        record {
          value = v;
          holds = (in_frame_of c n i there, has);
          stored = from_home (store_of g) c.site.base c.vars (looked x.table c.site (of_place n)) (house c.site (of_place n)) v item.plain inside item.at;
          elsewhere = outside c (of_place n) i there inside _ _ m.0 m.1;
        }
    stands_at c (of_waiting n) v i there inside has =
        let item = (held_of (store_of g) g.world (calls_of g) c y.hold i).1.items (of_waiting n) v there has in
        let m = home_is c (of_waiting n) v i there has in
        let f = frame_of_site x sites y.linked g.world sites c.site y.frames (among_sites (calls_of g) c i) in
        record {
          value = v;
          holds = ((f.frame, f.there), has);
          stored = from_home (store_of g) c.site.base c.vars (looked x.table c.site (of_waiting n)) (house c.site (of_waiting n)) v item.plain inside item.at;
          elsewhere = outside c (of_waiting n) i there inside _ _ m.0 m.1;
        }

    -- all homes hold
    pub good_homes : HomesHold (is_fixed g.ground) (HomeOf g) homes_apart g.ground.blocks g.world g.memory
    good_homes = record {
      sized = y.memory.sized;
      heap = y.heap;
      homes = λ h p. subst (IsAtHome (is_fixed g.ground) g.ground.blocks g.world g.memory) (sym p.is)
          (stands_at p.call p.name p.value p.among p.there p.inside p.has);
    }
