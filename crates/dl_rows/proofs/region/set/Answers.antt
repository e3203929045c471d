use Rattle.std.proofs.Common.{◌≡◌, ◌*◌, ◌/◌, ◌%◌, ◌^◌, true, nat_eq, if◌then◌else◌, set, bit_or, subst, sym}
use Rattle.std.proofs.lemmas.List.{get_or_read}
use Rattle.dl_rows.specs.Region.{has}
use Rattle.dl_rows.proofs.RegionLemmas.{has_set}
use Rattle.dl_rows.proofs.region.set.Goals as goal

pub returns-clause-bits : goal.returns-clause-bits
returns-clause-bits c = λ n.
    let words = c.args.words.now.items in
    let number = c.args.number in
    let read = get_or_read words (number / 64) c.index.result.now c.requires c.index.ensures 0 in
    subst (λ w. has (set words (number / 64) (bit_or w (1 * 2 ^ (number % 64) % 2 ^ 64))) n ≡ (if nat_eq n number then true else has words n)) (sym read)
    (has_set words number c.requires n)
