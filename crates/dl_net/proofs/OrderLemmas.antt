-- Pairs of labels by pairs of numbers, where the numbers that are known have labels of their own, and orders that are made of them.
use Rattle.std.proofs.Common.{◌≡◌, ℕ, zero, suc, ◌==◌, ◌&&◌, not, Some, List, [], ◌∷◌, ◌++◌, map, filter, take, append_assoc, refl, sym, ap, subst, ◌∙◌, arith}
use Rattle.std.specs.Prelude.{All, Contains, slice_get}
use Rattle.std.specs.Str.{bytes_eq}
use Rattle.std.proofs.lemmas.Bool.Decides.{same_from_decides, Decides-like, Decides-eqb}
use Rattle.std.proofs.lemmas.Slice.Eq.{bytes_eq-Decides}
use Rattle.std.proofs.lemmas.List.{get_or-map, length-map, append-nil}
use Rattle.dl_base.specs.Paths.{IsDistinct, IsPath, HasCycle, Descends, last_of}
use Rattle.dl_base.proofs.Members.{Contains-mapped, mapped_from}
use Rattle.dl_base.proofs.Filters.{filter_mapped}
use Rattle.dl_base.proofs.PathLemmas.{path_mapped, path_known}
use Rattle.dl_sup.specs.declared.link.Link.{Link}
use Rattle.dl_sup.specs.declared.stop.LoadStop.{LoadStop}
use Rattle.dl_sup.specs.declared.stop.LoadStop.TheVariants.{There, Cycle, Memory}
use Rattle.dl_sup.specs.declared.stop.SupStop.{SupStop}
use Rattle.dl_sup.specs.declared.stop.SupStop.TheVariants as sup_stop
use Rattle.dl_sup.specs.Links.{IsOver, IsOrder, link, same_link}
use Rattle.dl_sup.specs.Adding.{IsAddable, AreAddable, ClosesCycle, StopsAt, IsLoadStop}
use Rattle.dl_sup.proofs.Cycles.{order_addable}
use Rattle.dl_theory.specs.Lists.{IsAbove}
use Rattle.dl_theory.specs.Pairs.{pair_eq, Closes, label_at, named}
use Rattle.dl_rules.proofs.RuleLemmas.{All-by_member}

distinct_unmapped : {A B : Type 0} (f : A → B) (xs : List A) → IsDistinct (map f xs) → IsDistinct xs
distinct_unmapped f xs distinct i j d before within e =
    distinct i j (f d) before (omega (arith, within, length-map xs f))
    (get_or-map f xs i d (f d) (omega (arith, before, within)) ∙ ap f e ∙ sym (get_or-map f xs j d (f d) within))

module _ (items : List (List ℕ)) (K : ℕ → Type 0) (apart : (m n : ℕ) → K m → K n → label_at items m ≡ label_at items n → m ≡ n) where
  -- a test on labels as a test on numbers
  same_test : (m n : ℕ) → K m → K n → bytes_eq (label_at items m) (label_at items n) ≡ (m == n)
  same_test m n km kn =
      same_from_decides (bytes_eq (label_at items m) (label_at items n)) (m == n)
      (Decides-like (bytes_eq (label_at items m) (label_at items n)) (apart m n km kn) (ap (label_at items))
      (bytes_eq-Decides (label_at items m) (label_at items n)))
      (Decides-eqb m n)

  module _ (links : List Link) (known : (l : Link) → Contains links l → K l.upper × K l.lower) where
    over_above : (x y : ℕ) → IsOver links x y → IsAbove (map (named items) links) (label_at items x) (label_at items y) × K y
    over_above x y m = (Contains-mapped (named items) links (link x y) m, (known (link x y) m).1)

    -- the labels of a track of numbers are a path
    pub path_named : (l : Link) (track : List ℕ) → K l.lower → IsPath (IsOver links) l.lower l.upper track
        → IsPath (IsAbove (map (named items) links)) (label_at items l.lower) (label_at items l.upper) (map (label_at items) track)
    path_named l track k path =
        path_mapped (IsOver links) (IsAbove (map (named items) links)) (label_at items) K over_above apart l.lower l.upper track k path

    -- and these are known
    pub track_known : (l : Link) (track : List ℕ) → K l.lower → IsPath (IsOver links) l.lower l.upper track → All K track
    track_known l track k path =
        path_known (IsOver links) (IsAbove (map (named items) links)) (label_at items) K over_above apart l.lower l.upper track k path

    -- the numbers of labels from one that is known downwards
    record Follows (m : ℕ) (x : List ℕ) (rest : List (List ℕ)) : Type 0 where
      track : List ℕ
      descends : Descends (IsOver links) m track
      names : map (label_at items) track ≡ rest
      last : K (last_of (IsOver links) m track)
      ends : label_at items (last_of (IsOver links) m track) ≡ last_of (IsAbove (map (named items) links)) x rest

    above_over : (m : ℕ) → K m → (y : List ℕ) → IsAbove (map (named items) links) (label_at items m) y
        → (n : ℕ) × K n × (label_at items n ≡ y) × IsOver links m n
    above_over m k y above =
        let from = mapped_from (named items) links (record { upper = label_at items m; lower = y }) above in
        let l : Link = from.0 in
        let there = known l from.1 in
        let upper : l.upper ≡ m = apart l.upper m there.0 k (ap (λ p. p.upper) from.2) in
        (l.lower, there.1, ap (λ p. p.lower) from.2, subst (λ (z : ℕ). IsOver links z l.lower) upper from.1)

    follow : (m : ℕ) (x : List ℕ) (rest : List (List ℕ)) → K m → label_at items m ≡ x → Descends (IsAbove (map (named items) links)) x rest
        → Follows m x rest
    follow m x [] k e d = record { track = []; descends = tt; names = refl; last = k; ends = e }
    follow m x (y ∷ rest) k e d =
        let step = above_over m k y (subst (λ (z : List ℕ). IsAbove (map (named items) links) z y) (sym e) d.0) in
        let more = follow step.0 y rest step.1 step.2 d.1 in
        record {
          track = step.0 ∷ more.track;
          descends = (step.3, more.descends);
          names = λ i. step.2 i ∷ more.names i;
          last = more.last;
          ends = more.ends;
        }

    -- the numbers of a path of labels are a track
    closes_numbered : (l : Link) → K l.upper → K l.lower → Closes (map (named items) links) (named items l) → ClosesCycle links l
    closes_numbered l ku kl c =
        let path = c.1 in
        let f = follow l.lower (label_at items l.lower) path.rest kl refl path.descends in
        let names : c.0 ≡ map (label_at items) (l.lower ∷ f.track) = path.begins ∙ ap (λ (xs : List (List ℕ)). label_at items l.lower ∷ xs) (sym f.names) in (
          l.lower ∷ f.track,
          record {
            rest = f.track;
            begins = refl;
            ends = apart (last_of (IsOver links) l.lower f.track) l.upper f.last ku (f.ends ∙ path.ends);
            descends = f.descends;
            distinct = distinct_unmapped (label_at items) (l.lower ∷ f.track) (subst (λ (xs : List (List ℕ)). IsDistinct xs) names path.distinct);
          },
        )

    pub not_closing : (l : Link) → K l.upper → K l.lower → (¬ ClosesCycle links l) → ¬ Closes (map (named items) links) (named items l)
    not_closing l ku kl none c = none (closes_numbered l ku kl c)

    -- a pair that is there has its pair of numbers there
    pub old_link : (l : Link) → K l.upper → K l.lower → Contains (map (named items) links) (named items l) → Contains links l
    old_link l ku kl m =
        let from = mapped_from (named items) links (named items l) m in
        let q : Link = from.0 in
        let there = known q from.1 in
        let upper : q.upper ≡ l.upper = apart q.upper l.upper there.0 ku (ap (λ p. p.upper) from.2) in
        let lower : q.lower ≡ l.lower = apart q.lower l.lower there.1 kl (ap (λ p. p.lower) from.2) in
        subst (λ (z : Link). Contains links z) (λ i. record { upper = upper i; lower = lower i }) from.1

    -- pairs of numbers are an order where their pairs of labels are distinct and without cycles
    pub order_numbered : IsDistinct (map (named items) links) → (¬ HasCycle (IsAbove (map (named items) links))) → IsOrder links
    order_numbered distinct acyclic = record {
      distinct = distinct_unmapped (named items) links distinct;
      acyclic = λ c.
          let closing = over_above c.last c.first c.closes in
          acyclic (record {
            first = label_at items c.first;
            last = label_at items c.last;
            path = map (label_at items) c.path;
            is_path = path_mapped (IsOver links) (IsAbove (map (named items) links)) (label_at items) K over_above apart c.first c.last c.path closing.1 c.is_path;
            closes = closing.0;
          });
    }

    -- all the pairs but one
    pub links_without : (l : Link) → K l.upper → K l.lower
        → filter (λ p. not (pair_eq p (named items l))) (map (named items) links) ≡ map (named items) (filter (λ q. not (same_link q l)) links)
    links_without l ku kl =
        filter_mapped (named items) (λ p. not (pair_eq p (named items l))) (λ q. not (same_link q l)) links
        (All-by_member (λ q. not (pair_eq (named items q) (named items l)) ≡ not (same_link q l)) links
        (λ q m. let there = known q m in λ i. not (same_test q.upper l.upper there.0 ku i && same_test q.lower l.lower there.1 kl i)))

-- ---- pairs that are an order are added one by one

addable_at : (old links : List Link) (at : ℕ) (p : Link) → AreAddable old links → slice_get links at ≡ Some p → IsAddable (old ++ take at links) p
addable_at old [] at p h e = cc
addable_at old (q ∷ more) zero p h e =
    let same : q ≡ p = cc in
    subst (λ (ps : List Link). IsAddable ps p) (sym (append-nil old)) (subst (IsAddable old) same h.0)
addable_at old (q ∷ more) (suc at) p h e =
    subst (λ (ps : List Link). IsAddable ps p) (append_assoc old (q ∷ []) (take at more)) (addable_at (old ++ q ∷ []) more at p h.1 e)

not_refused : (links new : List Link) (at : ℕ) (stop : SupStop) → IsOrder links → (h : StopsAt [] new links at stop) → IsAddable new h.refused
not_refused links new at stop order h =
    subst (λ (ps : List Link). IsAddable ps h.refused) (sym h.added) (addable_at [] links at h.refused (order_addable [] links order) h.stands)

refused : (links new : List Link) (stop : LoadStop) → IsOrder links → IsLoadStop [] new links stop → stop ≡ Memory
refused links new (There place) order h = absurd ((not_refused links new place sup_stop.There order h).0 h.cause)
refused links new (Cycle place track) order h = absurd ((not_refused links new place (sup_stop.Cycle track) order h).1 (track, h.cause.1))
refused links new Memory order h = refl

-- where nothing stands before them
pub only_memory : (old links new all : List Link) (stop : LoadStop) → old ≡ [] → links ≡ all → IsOrder all → IsLoadStop old new links stop → stop ≡ Memory
only_memory old links new all stop none are order h =
    refused links new stop (subst IsOrder (sym are) order) (subst (λ (ps : List Link). IsLoadStop ps new links stop) none h)
