-- A file loads or is refused, and not both; so the statuses exclude one another.
use Rattle.std.proofs.Common.{◌≡◌, ◌∙◌, ◌⊎◌, ◌<◌, ◌≤◌, inl, inr, ℕ, Bool, true, List, [], ◌∷◌, ◌++◌, length, Option, None, Some, refl, sym, subst, arith}
use Rattle.dl_io.specs.Outside.{Rose}
use Rattle.dl_io.specs.House.{HouseState, standard}
use Rattle.dl_words.specs.Names.{output_names}
use Rattle.dl_theory.specs.Lists.{TheoryLists}
use Rattle.dl_session.specs.declared.end.End.{End}
use Rattle.dl_session.specs.declared.end.End.TheVariants.{Done, ReadFault, WriteFault, Spent}
use Rattle.dl_read.specs.declared.file.ReadStop.TheVariants as stop
use Rattle.dl_read.proofs.Unique.{loads_one, loads_or_stops}
use Rattle.dl_files.specs.declared.refusal.Refusal.{Refusal}
use Rattle.dl_files.specs.declared.refusal.Refusal.TheVariants.{Size, Form, Variables, Edit}
use Rattle.dl_files.specs.declared.status.Status.TheVariants as status
use Rattle.dl_files.specs.declared.status.Status.{Status}
use Rattle.dl_words.specs.Words as words
use Rattle.dl_words.specs.Words.{form}
use Rattle.dl_replies.specs.declared.checked.Checked.{Checked}
use Rattle.dl_replies.specs.declared.reply.Reply.TheVariants as reply
use Rattle.dl_files.specs.Theories.{limit, IsTheoryFile, IsRefusal}
use Rattle.dl_replies.specs.Checks.{IsOnlyChecked}
use Rattle.dl_replies.specs.Replies.{reply_status}
use Rattle.ddl.specs.Run.{Outcome, Shows, usage, refused, concluded, printed, too_large, checked, generated, Answers, MayEnd, ServesNames, AsksAbout}
use Rattle.dl_serving.specs.Serve.{ends_status, ends_of, Prints, HasFailed, HasLacked, Serves}

pub not_both : (bytes : List ℕ) (T : TheoryLists) (x : Refusal) → IsTheoryFile bytes T → IsRefusal bytes x → ⊥
not_both bytes T Size t h = absurd (omega (arith, t.0, h))
not_both bytes T (Form line) t h = let e = loads_or_stops bytes T (stop.BadLine line) t.1 h.1 in absurd (cc)
not_both bytes T (Variables line) t h = let e = loads_or_stops bytes T (stop.Variables line) t.1 h.1 in absurd (cc)
not_both bytes T (Edit line x) t h = let e = loads_or_stops bytes T (stop.Edit line x) t.1 h.1 in absurd (cc)

same_bytes : (held : Option (List ℕ)) (a b : List ℕ) → held ≡ Some a → held ≡ Some b → a ≡ b
same_bytes held a b h i = cc

same_file : (a asked : words.Form) (f file : List ℕ) → Some a ≡ Some asked → words.file_of a ≡ Some f → words.file_of asked ≡ Some file → f ≡ file
same_file a asked f file i names is =
    let same : a ≡ asked = cc in
    same_bytes (words.file_of asked) f file (subst (λ (g : words.Form). words.file_of g ≡ Some f) same names) is

-- words with a file of a theory are not about the calls of a number
no_run : (asked : words.Form) (file : List ℕ) (seed size : ℕ) → Some (words.Gen seed size) ≡ Some asked → words.file_of asked ≡ Some file → ⊥
no_run asked file seed size i is =
    let same : words.Gen seed size ≡ asked = cc in
    let none = subst (λ (g : words.Form). words.file_of g ≡ Some file) (sym same) is in
    absurd (cc (none))

module _ (holds : List ℕ → Option (List ℕ)) (asked : words.Form) (file bytes : List ℕ) (is : words.file_of asked ≡ Some file) (held : holds file ≡ Some bytes) where
  bytes_of : (a : words.Form) (f b : List ℕ) → Some a ≡ Some asked → words.file_of a ≡ Some f → holds f ≡ Some b → bytes ≡ b
  bytes_of a f b i names h =
      same_bytes (holds file) bytes b held (subst (λ (g : List ℕ). holds g ≡ Some b) (same_file a asked f file i names is) h)

  -- a file that is the only one has no certificate beside it
  not_alone : words.IsAlone asked → (f c : List ℕ) → Some (words.Check f c) ≡ Some asked → ⊥
  not_alone alone f c i = let same : words.Check f c ≡ asked = cc in subst (λ (a : words.Form). words.IsAlone a) (sym same) alone

  -- where the file loads, the words are answered
  pub loads_done : words.IsAlone asked → (T : TheoryLists) → IsTheoryFile bytes T → (form : Option words.Form) (names : List (List ℕ)) (outcome : Outcome) → form ≡ Some asked → Shows holds form names outcome
      → outcome.status ≡ status.Done
  loads_done alone T t form names outcome e s =
      elim s as (λ f n o _. f ≡ Some asked → o.status ≡ status.Done) [
        | usage ↦ λ i. absurd (cc)
        | refused a g b x n h r ↦ λ i. absurd (not_both b T x (subst (λ (y : List ℕ). IsTheoryFile y T) (bytes_of a g b i n h) t) r)
        | concluded f g b U cs h u c ↦ λ i. refl
        | printed g b U h u ↦ λ i. refl
        | too_large f c b m U h u k l ↦ λ i. absurd (not_alone alone f c i)
        | checked f c b m U x h u k l j ↦ λ i. absurd (not_alone alone f c i)
        | generated seed size s h ↦ λ i. refl
      ] e

  -- an answer that is done has a theory
  pub shown_loads : (form : Option words.Form) (names : List (List ℕ)) (outcome : Outcome) → form ≡ Some asked → Shows holds form names outcome → outcome.status ≡ status.Done
      → (T : TheoryLists) × IsTheoryFile bytes T
  shown_loads form names outcome e s =
      elim s as (λ f n o _. f ≡ Some asked → o.status ≡ status.Done → (T : TheoryLists) × IsTheoryFile bytes T) [
        | usage ↦ λ i d. absurd (cc)
        | refused a g b x n h r ↦ λ i d. absurd (cc)
        | concluded f g b U cs h u c ↦ λ i d. (U, subst (λ (y : List ℕ). IsTheoryFile y U) (sym (bytes_of (words.Conclude f g) g b i refl h)) u)
        | printed g b U h u ↦ λ i d. (U, subst (λ (y : List ℕ). IsTheoryFile y U) (sym (bytes_of (words.Print g) g b i refl h)) u)
        | too_large f c b m U h u k l ↦ λ i d. (U, subst (λ (y : List ℕ). IsTheoryFile y U) (sym (bytes_of (words.Check f c) f b i refl h)) u)
        | checked f c b m U x h u k l j ↦ λ i d. (U, subst (λ (y : List ℕ). IsTheoryFile y U) (sym (bytes_of (words.Check f c) f b i refl h)) u)
        | generated seed size s h ↦ λ i d. absurd (no_run asked file seed size i is)
      ] e

  -- what is answered by a refusal is refused, where no certificate is asked about
  pub shown_refused : words.IsAlone asked → (form : Option words.Form) (names : List (List ℕ)) (outcome : Outcome) → form ≡ Some asked → Shows holds form names outcome
      → outcome.status ≡ status.Refused → (x : Refusal) × IsRefusal bytes x
  shown_refused alone form names outcome e s =
      elim s as (λ f n o _. f ≡ Some asked → o.status ≡ status.Refused → (x : Refusal) × IsRefusal bytes x) [
        | usage ↦ λ i d. absurd (cc)
        | refused a g b x n h r ↦ λ i d. (x, subst (λ (y : List ℕ). IsRefusal y x) (sym (bytes_of a g b i n h)) r)
        | concluded f g b U cs h u c ↦ λ i d. absurd (cc)
        | printed g b U h u ↦ λ i d. absurd (cc)
        | too_large f c b m U h u k l ↦ λ i d. absurd (not_alone alone f c i)
        | checked f c b m U x h u k l j ↦ λ i d. absurd (not_alone alone f c i)
        | generated seed size s h ↦ λ i d. absurd (cc)
      ] e

  -- where the file of the theory is refused, so are the words
  pub refused_refused : (x : Refusal) → IsRefusal bytes x → (form : Option words.Form) (names : List (List ℕ)) (outcome : Outcome) → form ≡ Some asked → Shows holds form names outcome
      → outcome.status ≡ status.Refused
  refused_refused x r form names outcome e s =
      elim s as (λ f n o _. f ≡ Some asked → o.status ≡ status.Refused) [
        | usage ↦ λ i. absurd (cc)
        | refused a g b y n h q ↦ λ i. refl
        | concluded f g b U cs h u c ↦ λ i. absurd (not_both b U x u (subst (λ (y : List ℕ). IsRefusal y x) (bytes_of (words.Conclude f g) g b i refl h) r))
        | printed g b U h u ↦ λ i. absurd (not_both b U x u (subst (λ (y : List ℕ). IsRefusal y x) (bytes_of (words.Print g) g b i refl h) r))
        | too_large f c b m U h u k l ↦ λ i. refl
        | checked f c b m U y h u k l j ↦ λ i. absurd (not_both b U x u (subst (λ (z : List ℕ). IsRefusal z x) (bytes_of (words.Check f c) f b i refl h) r))
        | generated seed size s h ↦ λ i. absurd (no_run asked file seed size i is)
      ] e

-- where the theory loads, a certificate ends the program as it is judged
module _ (old : HouseState) (given : List (List ℕ)) (T : TheoryLists) (certificate : List ℕ) (asks : AsksAbout old given T certificate) (expected : Status)
    (large : limit < length certificate → status.Refused ≡ expected)
    (judged : (x : Checked) → length certificate ≤ limit → IsOnlyChecked T certificate x → reply_status (reply.Checked x) ≡ expected) where
  abbrev asked : words.Form
  asked = words.Check asks.theory asks.cert

  same_theory : (f c b : List ℕ) → Some (words.Check f c) ≡ Some asked → old.holds f ≡ Some b → b ≡ asks.bytes
  same_theory f c b i h =
      let same : f ≡ asks.theory = cc in
      same_bytes (old.holds asks.theory) b asks.bytes (subst (λ (name : List ℕ). old.holds name ≡ Some b) same h) asks.held

  same_certificate : (f c m : List ℕ) → Some (words.Check f c) ≡ Some asked → old.holds c ≡ Some m → m ≡ certificate
  same_certificate f c m i k =
      let same : c ≡ asks.cert = cc in
      same_bytes (old.holds asks.cert) m certificate (subst (λ (name : List ℕ). old.holds name ≡ Some m) same k) asks.kept

  one_theory : (b : List ℕ) (U : TheoryLists) → b ≡ asks.bytes → IsTheoryFile b U → U ≡ T
  one_theory b U e u = loads_one asks.bytes T U asks.loads.1 (subst (λ (l : List ℕ). IsTheoryFile l U) e u).1

  pub certificate_ends : (names : List (List ℕ)) (outcome : Outcome) → Shows old.holds (form given) names outcome → outcome.status ≡ expected
  certificate_ends names outcome s =
      elim s as (λ f n o _. f ≡ Some asked → o.status ≡ expected) [
        | usage ↦ λ i. absurd (cc)
        | refused a f b x n h r ↦ λ i.
            let held = subst (λ (g : List ℕ). old.holds g ≡ Some b) (same_file a asked f asks.theory i n refl) h in
            absurd (not_both b T x (subst (λ (l : List ℕ). IsTheoryFile l T) (same_bytes (old.holds asks.theory) asks.bytes b asks.held held) asks.loads) r)
        | concluded f file b U cs h u c ↦ λ i. absurd (cc)
        | printed file b U h u ↦ λ i. absurd (cc)
        | too_large f c b m U h u k l ↦ λ i. large (subst (λ (n : List ℕ). limit < length n) (same_certificate f c m i k) l)
        | checked f c b m U x h u k l j ↦ λ i.
            let e = same_certificate f c m i k in
            judged x (subst (λ (n : List ℕ). length n ≤ limit) e l)
            (subst (λ (n : List ℕ). IsOnlyChecked T n x) e
            (subst (λ (V : TheoryLists). IsOnlyChecked V m x) (one_theory b U (same_theory f c b i h) u) j))
        | generated seed size s h ↦ λ i. absurd (cc)
      ] asks.asks

-- words with this status have no form
pub usage_of : (asked : Option words.Form) (names : List (List ℕ)) → MayEnd asked names status.Usage → asked ≡ None
usage_of None names may = refl
usage_of (Some (words.Conclude f file)) names (same, inl e) = absurd (cc)
usage_of (Some (words.Conclude f file)) names (same, inr e) = absurd (cc)
usage_of (Some (words.Print file)) names (same, inl e) = absurd (cc)
usage_of (Some (words.Print file)) names (same, inr e) = absurd (cc)
usage_of (Some (words.Check theory cert)) names (inl (same, e)) = absurd (cc)
usage_of (Some (words.Check theory cert)) names (inr (same, inl e)) = absurd (cc)
usage_of (Some (words.Check theory cert)) names (inr (same, inr (inl e))) = absurd (cc)
usage_of (Some (words.Check theory cert)) names (inr (same, inr (inr e))) = absurd (cc)
usage_of (Some (words.Gen seed size)) names (same, e) = absurd (cc)
usage_of (Some (words.Serve theory sessions)) names (same, e) = absurd (cc)

ends_otherwise : (ends : List End) → ends_status ends ≡ status.Usage → ⊥
ends_otherwise [] e = absurd (cc)
ends_otherwise (Done ∷ more) e = ends_otherwise more e
ends_otherwise (ReadFault ∷ more) e = absurd (cc)
ends_otherwise (WriteFault ∷ more) e = absurd (cc)
ends_otherwise (Spent ∷ more) e = absurd (cc)

-- sessions do not end so
pub serves_otherwise : (tells : Bool) (old new : HouseState) (given before : List (List ℕ)) → ServesNames tells old new given before status.Usage → ⊥
serves_otherwise tells old new given before serves = by serves.serves
  where
    printed : (expected : Status) (text : List ℕ) → (expected ≡ status.Usage → ⊥) → Prints tells old new text expected status.Usage → ⊥
    printed expected text other (inl p) = other (sym p.same)
    printed expected text other (inr cut) = absurd (cc (cut.fault))

    by : Serves tells old new serves.theory serves.names (before ++ output_names serves.names) status.Usage → ⊥
    by (inl has) = printed (ends_status (ends_of has.accounts)) _ (ends_otherwise (ends_of has.accounts)) has.printed
    by (inr stops) = elim stops.cause as (λ _. ⊥) [
      | inl failed ↦ absurd (cc (failed.fault))
      | inr lacked ↦ absurd (cc (lacked.memory))
    ]

served_file : (asked : words.Form) (theory file : List ℕ) (sessions : List (List ℕ)) → Some (words.Serve theory sessions) ≡ Some asked → words.file_of asked ≡ Some file → file ≡ theory
served_file asked theory file sessions i names = sym (same_file (words.Serve theory sessions) asked theory file i refl names)

-- where the program is done, the file of the theory loads
pub done_loads : (old new : HouseState) (given before : List (List ℕ)) (asked : words.Form) (file bytes : List ℕ) → form given ≡ Some asked → words.file_of asked ≡ Some file
    → old.holds file ≡ Some bytes → ServesNames true old new given before status.Done → (T : TheoryLists) × IsTheoryFile bytes T
done_loads old new given before asked file bytes is names held serves =
    by (subst (λ (f : List ℕ). old.holds f ≡ Some bytes) (served_file asked serves.theory file serves.names (sym serves.asks ∙ is) names) held) serves.serves
  where
    by : old.holds serves.theory ≡ Some bytes → Serves true old new serves.theory serves.names (before ++ output_names serves.names) status.Done → (T : TheoryLists) × IsTheoryFile bytes T
    by there (inl has) =
        let loads = has.loads refl in
        (has.T, subst (λ (b : List ℕ). IsTheoryFile b has.T) (same_bytes (old.holds serves.theory) loads.0 bytes loads.1 there) loads.2)
    by there (inr stops) = elim stops.cause as (λ _. (T : TheoryLists) × IsTheoryFile bytes T) [
      | inl failed ↦ absurd (cc (failed.fault))
      | inr lacked ↦ absurd (cc (lacked.memory))
    ]

-- what the house's count did not stop ends as its outcome does, or for want of memory
module _ (old new : HouseState) (words : List (List ℕ)) (ends expected : Status) (calm : Rose old.faults new.faults → ⊥)
    (only : (names : List (List ℕ)) (outcome : Outcome) → Shows old.holds (form words) names outcome → outcome.status ≡ expected)
    (served : ServesNames true old new words (standard ∷ []) ends → (ends ≡ expected) ⊎ (ends ≡ status.Memory)) where
  pub ends_so : Answers true old new words ends → (ends ≡ expected) ⊎ (ends ≡ status.Memory)
  ends_so (inl says) = let o = says.shown refl in inl (o.2 ∙ only says.names o.0 o.1)
  ends_so (inr (inl fails)) = absurd (calm fails.rose)
  ends_so (inr (inr (inl lacks))) = inr lacks.memory
  ends_so (inr (inr (inr serves))) = served serves

-- the calls of a number end with Done where they end by themselves
pub run_done : (form : Option words.Form) (names : List (List ℕ)) (ends : Status) (seed size : ℕ) → form ≡ Some (words.Gen seed size) → MayEnd form names ends → ends ≡ status.Done
run_done form names ends seed size is may = (subst (λ (a : Option words.Form). MayEnd a names ends) is may).1

-- who asks for something else is not served
module _ (tells : Bool) (old new : HouseState) (given before : List (List ℕ)) (ends : Status) where
  pub alone_unserved : (asked : words.Form) → form given ≡ Some asked → words.IsAlone asked → ServesNames tells old new given before ends → ⊥
  alone_unserved asked is alone serves =
      let same : asked ≡ words.Serve serves.theory serves.names = cc (is, serves.asks) in
      subst (λ (f : words.Form). words.IsAlone f) same alone

  pub run_unserved : (seed size : ℕ) → form given ≡ Some (words.Gen seed size) → ServesNames tells old new given before ends → ⊥
  run_unserved seed size is serves = absurd (cc (is, serves.asks))

  pub check_unserved : (theory cert : List ℕ) → form given ≡ Some (words.Check theory cert) → ServesNames tells old new given before ends → ⊥
  check_unserved theory cert is serves = absurd (cc (is, serves.asks))

-- nor is who asks for sessions from a file that is refused
pub refused_unserved : (old new : HouseState) (given before : List (List ℕ)) (ends expected : Status) (asked : words.Form) (file bytes : List ℕ) (x : Refusal) → form given ≡ Some asked
    → words.file_of asked ≡ Some file → old.holds file ≡ Some bytes → IsRefusal bytes x → (Rose old.faults new.faults → ⊥) → ServesNames true old new given before ends
    → (ends ≡ expected) ⊎ (ends ≡ status.Memory)
refused_unserved old new given before ends expected asked file bytes x is names held refusal calm serves =
    by (subst (λ (f : List ℕ). old.holds f ≡ Some bytes) (served_file asked serves.theory file serves.names (sym serves.asks ∙ is) names) held) serves.serves
  where
    stopped : HasFailed old new serves.theory ends ⊎ HasLacked old new ends → (ends ≡ expected) ⊎ (ends ≡ status.Memory)
    stopped (inl failed) = absurd (calm failed.rose)
    stopped (inr lacked) = inr lacked.memory

    by : old.holds serves.theory ≡ Some bytes → Serves true old new serves.theory serves.names (before ++ output_names serves.names) ends → (ends ≡ expected) ⊎ (ends ≡ status.Memory)
    by there (inl has) =
        let loads = has.loads refl in
        absurd (not_both bytes has.T x (subst (λ (b : List ℕ). IsTheoryFile b has.T) (same_bytes (old.holds serves.theory) loads.0 bytes loads.1 there) loads.2) refusal)
    by there (inr stops) = stopped stops.cause
