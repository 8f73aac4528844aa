use Rattle.std.proofs.Common.{arith, refl, sym, ◌∙◌, length, ◌≡◌, inr}
use Rattle.std.proofs.lemmas.Option.{same_Some}
use lib.ListN.{drop}
use Rattle.tag_layouts.proofs.Arrays.{lent-part}
use Rattle.word_tags.proofs.on_bytes.write.Goals as goal

pub returns-in_default : goal.returns-in_default
returns-in_default g c =
    inr
    (record {
      same = omega (arith, c.if-tags-values.false);
      k = _;
      bytes = _;
      into = c.narrow_into-k.ensures;
      left-tags = _;
      left = _;
      rest = c.args.tags.now;
      leaves = record { first = _; second = _; shows = (refl, refl); left = _; called = c.call-listed.ensures; leaves = (refl, refl) };
      kept = λ e. (refl, refl);
      back = λ n e h. absurd (c.in_default.not-Some n e);
    })

pub returns-then-listed-eq30 : goal.returns-then-listed-eq30
returns-then-listed-eq30 g c =
    inr
    (record {
      same = omega (arith, c.if-tags-values.false);
      k = _;
      bytes = _;
      into = c.narrow_into-k.ensures;
      left-tags = _;
      left = _;
      rest = c.args.tags.now;
      leaves = record { first = _; second = _; shows = (refl, refl); left = _; called = c.call-listed.ensures; leaves = (refl, refl) };
      kept = λ e. (refl, refl);
      back = λ n e h. absurd (h c.if-listed-eq30.true);
    })

pub write_back-requires : goal.write_back-requires
write_back-requires g c =
    let same : length c.args.tags.now ≡ length c.args.values.now = omega (arith, c.if-tags-values.false) in
    let fits = c.requires.fits _ _ _ _ _ _ same c.narrow_into-k.ensures (record { first = _; second = _; shows = (refl, refl); left = _; called = c.call-listed.ensures; leaves = (refl, refl) }) in
    let (long, within) = fits c.in-Some.n c.in-Some.is c.if-listed-eq30.false in
    rw (lent-part _ _ _ long)
    (record { within = omega (arith, long, within); short = omega (arith, long, c.narrow_into-k.ensures.size) })

pub returns : goal.returns
returns g c =
    inr
    (record {
      same = omega (arith, c.if-tags-values.false);
      k = c.narrow_into-k.result;
      bytes = c.narrow_into-k.new.bytes;
      into = c.narrow_into-k.ensures;
      left-tags = c.call-listed.new.arg2;
      left = c.call-listed.new.arg3;
      rest = drop c.narrow_into-k.result c.narrow_into-k.new.bytes;
      leaves = record { first = _; second = _; shows = (refl, refl); left = _; called = c.call-listed.ensures; leaves = (refl, refl) };
      kept = λ e. absurd (c.if-listed-eq30.false (e c.in-Some.n c.in-Some.is));
      back = λ n e h. rw (same_Some n c.in-Some.n (sym e ∙ c.in-Some.is)) (c.write_back.ensures, c.zero_from.ensures);
    })
