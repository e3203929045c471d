-- What was handed on of a reply, where what was written of it is known.
use Rattle.std.proofs.Common.{◌≡◌, ℕ, List, ◌++◌, Option, None, Some, refl, sym, ap, ◌∙◌, arith, length, suc, drop, append_assoc}
use Rattle.std.proofs.lemmas.List.{append_cancel_left}
use Rattle.std.proofs.Math.Seq.{drop-append_seam}
use Rattle.std.specs.Io.KnownBytes.{append_known}
use Rattle.dl_io.specs.Streams.{IsFront, IsKnownFront}
use Rattle.dl_calls.specs.declared.entry.Entry.{Entry}
use Rattle.dl_edition.specs.Editions.{EditionLists}
use Rattle.dl_edition.specs.Offices.{SeatLists}
use Rattle.dl_lines.specs.declared.next.Ending.{Ending}
use Rattle.dl_lines.specs.declared.next.Ending.TheVariants as ending
use Rattle.dl_lines.specs.declared.next.Next.{Next}
use Rattle.dl_lines.specs.declared.next.Next.TheVariants.{Line, Long, Over}
use Rattle.dl_session.specs.declared.end.End.{End}
use Rattle.dl_session.specs.declared.end.End.TheVariants.{Done, ReadFault, WriteFault, Spent}
use Rattle.dl_session.specs.Lent.{lent_name}
use Rattle.dl_session.specs.Serving.{end_of, HandsOnBy, ServesLine, ServesNext}

-- the name of a sink that is lent tells what had been handed on
pub lent_name-handed : (a b : ℕ) (n m : List ℕ) (x y : Option (List ℕ)) → lent_name a n x ≡ lent_name b m y → x ≡ y
lent_name-handed a b n m None None e = refl
lent_name-handed a b n m None (Some y) e = absurd (cc e)
lent_name-handed a b n m (Some x) None e = absurd (cc e)
lent_name-handed a b n m (Some x) (Some y) e =
    let long : suc (length n) ≡ suc (length m) = cc e in
    let rest : n ++ x ≡ m ++ y = cc e in
    ap Some (sym (drop-append_seam n x) ∙ ap (λ l. drop (length n) l) rest ∙ ap (λ k. drop k (m ++ y)) (omega (arith, long)) ∙ drop-append_seam m y)

-- of a reply, where all before it was handed on, a front was
handed_front : (sink handed written : Option (List ℕ)) (front reply : List ℕ) → IsFront front reply → written ≡ append_known sink front → IsKnownFront sink handed → IsKnownFront handed written
    → (part : List ℕ) × IsFront part reply × (handed ≡ append_known sink part)
handed_front None handed written front reply of wrote still within = (front, of, still.1)
handed_front (Some before) handed written front reply of wrote still within =
    let known : Some (before ++ front) ≡ Some ((before ++ still.0) ++ within.0) = sym wrote ∙ within.1 ∙ ap (λ known. append_known known within.0) still.1 in
    let bytes : before ++ front ≡ (before ++ still.0) ++ within.0 = cc known in
    let same : front ≡ still.0 ++ within.0 = append_cancel_left before front (still.0 ++ within.0) (bytes ∙ append_assoc before still.0 within.0) in
    (still.0, (within.0 ++ of.0, of.1 ∙ ap (λ l. l ++ of.0) same ∙ append_assoc still.0 within.0 of.0), still.1)

-- What is said of a line by what was written holds by what was handed on.
module _ (old new : SeatLists) (before : List Entry) (table : List EditionLists) (sink sink_now handed_now : Option (List ℕ)) where
  line_handed : (line : List ℕ) (result : Option End) → HandsOnBy sink handed_now sink_now result → ServesLine old new before table line sink sink_now result
      → ServesLine old new before table line sink handed_now result
  line_handed line None all (bytes, answers, wrote) = (bytes, answers, all ∙ wrote)
  line_handed line (Some Done) all (quit, same, kept) = (quit, same, all ∙ kept)
  line_handed line (Some ReadFault) all never = never
  line_handed line (Some WriteFault) (still, within) (bytes, front, answers, of, wrote) =
      let part = handed_front sink handed_now sink_now front bytes of wrote still within in
      (bytes, part.0, answers, part.1, part.2)
  line_handed line (Some Spent) all never = never

  over_handed : (how : Ending) (result : Option End) → result ≡ Some (end_of how) → sink_now ≡ sink → HandsOnBy sink handed_now sink_now result → handed_now ≡ sink
  over_handed how None e kept all = all ∙ kept
  over_handed how (Some Done) e kept all = all ∙ kept
  over_handed how (Some ReadFault) e kept all = all ∙ kept
  over_handed how (Some Spent) e kept all = all ∙ kept
  over_handed ending.End (Some WriteFault) e kept all = absurd (cc e)
  over_handed ending.Limit (Some WriteFault) e kept all = absurd (cc e)
  over_handed ending.Fault (Some WriteFault) e kept all = absurd (cc e)

  pub next_handed : (line : List ℕ) (answer : Next) (faults now : ℕ) (result : Option End) → HandsOnBy sink handed_now sink_now result
      → ServesNext old new before table line answer sink sink_now faults now result → ServesNext old new before table line answer sink handed_now faults now result
  next_handed line Line faults now result all (served, cause) = (line_handed line result all served, cause)
  next_handed line Long faults now result all (served, cause) = (λ long past. line_handed long result all (served long past), cause)
  next_handed line (Over how) faults now result all (ended, same, kept, cause) = (ended, same, over_handed how result ended kept all, cause)
