use Rattle.std.proofs.Common.{◌≡◌, ◌<◌, Bool, length, subst, sym, ap, arith}
use Rattle.std.specs.Prelude.{IsTrue}
use Rattle.std.proofs.lemmas.List.Elements.{All-weaker}
use Rattle.dl_marks.specs.Marks.{places, is_owned}
use Rattle.dl_fill.specs.Before.{tag_of}
use Rattle.dl_update.proofs.unmarked.no_marks.Goals as goal

pub clear_members-requires : goal.clear_members-requires
clear_members-requires g c =
    let none : places c.make-marks.result ≡ 0 = ap places c.make-marks.ensures in
    All-weaker (λ n. n < c.args.region.now.bound) (λ n. IsTrue (is_owned c.grown.new.self n))
    (λ n lt. c.in_ok-grown.ensures.fresh_owned n (omega (arith, none)) (omega (arith, lt, c.requires.bound, c.names.ensures.len)))
    c.args.region.now.members c.len-members.ensures.region.below

pub returns : goal.returns
returns g c =
    let done = c.clear_members.ensures in
    let len : places c.clear_members.new.marks ≡ length c.args.net.now.names = omega (arith, done.places, c.in_ok-grown.ensures.len, c.names.ensures.len) in
    let none : places c.make-marks.result ≡ 0 = ap places c.make-marks.ensures in
    record {
      bound = c.requires.bound;
      room = omega (arith, len);
      owned =
          All-weaker (λ n. n < c.args.region.now.bound) (λ n. IsTrue (is_owned c.clear_members.new.marks n))
          (λ n lt.
          subst (λ (b : Bool). IsTrue b) (sym (done.owned n))
          (c.in_ok-grown.ensures.fresh_owned n (omega (arith, none)) (omega (arith, lt, c.requires.bound, c.names.ensures.len))))
          c.args.region.now.members c.len-members.ensures.region.below;
      outside = λ f ours plus n lt out. absurd (out (c.requires.all n (omega (arith, lt, len))));
      absent = λ f ours plus. done.cleared (tag_of plus f);
    }
