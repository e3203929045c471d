-- From a certificate's bytes to what the words ask for, over two files.
use Rattle.std.proofs.Common.{◌≡◌, ◌∙◌, ◌⊎◌, ◌+◌, inl, inr, ℕ, List, [], ◌∷◌, ◌++◌, Option, Some, refl, sym, ap, subst, append_assoc, append-nil}
use Rattle.std.specs.Prelude.{Result}
use Rattle.dl_io.specs.House.{HouseState}
use Rattle.dl_theory.specs.Lists.{TheoryLists}
use Rattle.dl_files.specs.declared.refusal.Refusal.TheVariants.{Size, Form, Variables, Edit}
use Rattle.dl_replies.specs.declared.reply.Reply.{Reply}
use Rattle.dl_replies.specs.declared.reply.Reply.TheVariants as reply
use Rattle.dl_files.specs.Theories.{limit, IsTheoryFile}
use Rattle.dl_replies.specs.Certified.{SaysOfCertificate}
use Rattle.dl_files.specs.declared.whole.Stop.{Stop}
use Rattle.dl_files.specs.Whole.{HasFault, TakesAtMost}
use Rattle.dl_words.specs.Words.{Check}
use Rattle.dl_files.specs.Reading.{ReadsOnly, ReadsWithin}
use Rattle.ddl.specs.Run.{Shows, too_large, checked, outcome_of}

module _ (holds : List ℕ → Option (List ℕ)) (file cert bytes more : List ℕ) (T : TheoryLists) (held : holds file ≡ Some bytes) (loads : IsTheoryFile bytes T)
    (kept : holds cert ≡ Some more) where
  pub certificate_shown : (r : Reply) → SaysOfCertificate T more r → Shows holds (Some (Check file cert)) (file ∷ cert ∷ []) (outcome_of r)
  certificate_shown reply.Usage h = absurd h
  certificate_shown (reply.Refused Size) h = too_large file cert bytes more T held loads kept h
  certificate_shown (reply.Refused (Form line)) h = absurd h
  certificate_shown (reply.Refused (Variables line)) h = absurd h
  certificate_shown (reply.Refused (Edit line x)) h = absurd h
  certificate_shown (reply.Conclusions f cs) h = absurd h
  certificate_shown (reply.Text U) h = absurd h
  certificate_shown (reply.Generated s) h = absurd h
  certificate_shown (reply.Checked x) h = checked file cert bytes more T x held loads kept h.0 h.1

-- some was read, and then more
within_then : (old mid new : HouseState) → mid.holds ≡ old.holds → ReadsWithin old mid → ReadsWithin mid new → ReadsWithin old new
within_then old mid new same before after = λ name. elim (after name) as (λ _. (new.left name ≡ old.left name) ⊎ TakesAtMost (limit + 1) (old.holds name) (new.left name)) [
  | inl kept ↦ elim (before name) as (λ _. (new.left name ≡ old.left name) ⊎ TakesAtMost (limit + 1) (old.holds name) (new.left name)) [
    | inl first ↦ inl (kept ∙ first)
    | inr takes ↦ inr (subst (λ (rest : Option (List ℕ)). TakesAtMost (limit + 1) (old.holds name) rest) (sym kept) takes)
  ]
  | inr takes ↦ inr (subst (λ (holds : List ℕ → Option (List ℕ)). TakesAtMost (limit + 1) (holds name) (new.left name)) same takes)
]

-- no file was read
pub reads_nothing : (house : HouseState) → ReadsOnly house house []
reads_nothing house = record {
  holds = refl;
  within = λ name. inl refl;
  wrote = refl;
  open_in = refl;
  open_out = refl;
  asked_in = ([], [], refl, sym (append-nil house.asked_in));
  asked_out = refl;
}

-- one file was read, of two that were named
pub reads_first : (old new : HouseState) (x y : List ℕ) → ReadsOnly old new (x ∷ []) → ReadsOnly old new (x ∷ y ∷ [])
reads_first old new x y h = record {
  holds = h.holds;
  within = h.within;
  wrote = h.wrote;
  open_in = h.open_in;
  open_out = h.open_out;
  asked_in = (
    h.asked_in.0,
    h.asked_in.1 ++ y ∷ [],
    ap (λ (l : List (List ℕ)). l ++ y ∷ []) h.asked_in.2 ∙ append_assoc h.asked_in.0 h.asked_in.1 (y ∷ []),
    h.asked_in.3,
  );
  asked_out = h.asked_out;
}

-- the first file was read, and then the second
pub reads_both : (old mid new : HouseState) (x y : List ℕ) → ReadsOnly old mid (x ∷ []) → mid.asked_in ≡ old.asked_in ++ x ∷ [] → ReadsOnly mid new (y ∷ [])
    → ReadsOnly old new (x ∷ y ∷ [])
reads_both old mid new x y h asked i = record {
  holds = i.holds ∙ h.holds;
  within = within_then old mid new h.holds h.within i.within;
  wrote = i.wrote ∙ h.wrote;
  open_in = i.open_in ∙ h.open_in;
  open_out = i.open_out ∙ h.open_out;
  asked_in = (
    x ∷ i.asked_in.0,
    i.asked_in.1,
    ap (λ (l : List (List ℕ)). x ∷ l) i.asked_in.2,
    i.asked_in.3 ∙ ap (λ (l : List (List ℕ)). l ++ i.asked_in.0) asked ∙ append_assoc old.asked_in (x ∷ []) i.asked_in.0,
  );
  asked_out = i.asked_out ∙ h.asked_out;
}

-- a count that stood still before stands for the one at the start
pub fault_after : {T : Type 0} (before mid now : ℕ) (r : Result T Stop) → mid ≡ before → HasFault mid now r → HasFault before now r
fault_after before mid now r same h = subst (λ (n : ℕ). HasFault n now r) same h
