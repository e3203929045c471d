-- The numbers of what matters for a literal have all that lies behind them.
use Rattle.std.proofs.Common.{◌≡◌, ℕ, ◌<◌, length, get_or, inl, inr, refl, sym, subst}
use Rattle.std.specs.Prelude.{All}
use Rattle.std.proofs.lemmas.List.Elements.{Contains-get_or}
use Rattle.dl_base.proofs.Members.{Contains-mapped, mapped_from}
use Rattle.dl_lit.specs.declared.literal.Literal.{Literal}
use Rattle.dl_theory.specs.Verdicts.{Back, Reaches}
use Rattle.dl_graph.specs.Region.{Numbers}
use Rattle.dl_graph.specs.Numbers.{NetLists, IsNumbered, literal_at, number}
use Rattle.dl_fill.proofs.Links.{number_finds, number_inside}
use Rattle.dl_derive.specs.Back.{IsBack}
use Rattle.dl_derive.specs.Part.{IsOf, HasAllBehind}
use Rattle.dl_derive.proofs.Resting.{back_named}

module _ (N : NetLists) (numbered : IsNumbered N) (q : ℕ) (lt : q < length N.names) (r : Numbers) (b : IsBack N q r) where
  pub members_inside : All (λ n. n < length N.names) r.members
  members_inside = λ k d within. ((b.members (get_or r.members k d)).0 (Contains-get_or r.members k d within)).0

  behind : (c : Literal) → IsOf N r.members c → Back N.theory (literal_at N q) c
  behind c of =
      let m = mapped_from (literal_at N) r.members c of in
      subst (Back N.theory (literal_at N q)) m.2 ((b.members m.0).0 m.1).1

  numbered_behind : (c : Literal) → Back N.theory (literal_at N q) c → IsOf N r.members c
  numbered_behind c h =
      let named = back_named N numbered q lt c h in
      let finds : literal_at N (number N c) ≡ c = number_finds N numbered c named in
      subst (IsOf N r.members) finds
      (Contains-mapped (literal_at N) r.members (number N c)
      ((b.members (number N c)).1 (number_inside N numbered c named, subst (Back N.theory (literal_at N q)) (sym finds) h)))

  pub itself : IsOf N r.members (literal_at N q)
  itself = numbered_behind (literal_at N q) (Reaches.start (literal_at N q) refl)

  pub all_behind : HasAllBehind N.theory (IsOf N r.members)
  all_behind = record {
    attacked = λ p c of m. numbered_behind c (Reaches.step p c (behind p of) (inl m));
    bodies = λ u m of k d within.
        numbered_behind (get_or u.body k d)
        (Reaches.step u.head (get_or u.body k d) (behind u.head of) (inr (m.0, u, m.1, m.2, (refl, Contains-get_or u.body k d within))));
  }
