use Rattle.std.proofs.Common.{◌≡◌, sym, ap, ◌∙◌, ◌∷◌, length, drop, length-drop, length-set, arith}
use Rattle.std.proofs.lemmas.Option.{MatchOption-at_some}
use Rattle.command.specs.Pieces.{bytes_of}
use Rattle.command.specs.Inner.{left}
use Rattle.command.proofs.Sizes.{bytes-length}
use Rattle.octets.proofs.Written.{drop-next, store-next}
use Rattle.command.proofs.Filling.{some-left, laid-take}
use Rattle.command.proofs.fill.Goals as goal

pub unwrap-piece-requires : goal.unwrap-piece-requires
unwrap-piece-requires c =
    let at = c.loop-k in
    let text = bytes_of (left c.args.pieces) in
    some-left c.next.result _ _ c.next.ensures.steps
    (omega (arith, ap length at.invariant.ahead, length-drop at.k text, bytes-length (left at.pieces), bytes-length (left c.args.pieces)))

pub loop-k-preserved : goal.loop-k-preserved
unfolding bytes_of
loop-k-preserved c =
    let at = c.loop-k in
    let text = bytes_of (left c.args.pieces) in
    let step = MatchOption-at_some _ _ c.unwrap-piece.result c.unwrap-piece.ensures c.next.ensures.steps in
    let s = bytes_of (left c.next.new.self) in
    let e : drop at.k text ≡ c.byte_of.result ∷ s = sym at.invariant.ahead ∙ ap bytes_of step ∙ rw c.byte_of.ensures in
    record {
      can = tt;
      ahead = sym (drop-next text s at.k c.byte_of.result e);
      is = rw at.invariant.is (store-next text s c.args.out.now at.k c.byte_of.result e (omega arith));
      size = simp length-set at.invariant.size;
    }

pub returns : goal.returns
returns c =
    let e : c.loop-k.k ≡ c.args.n = omega arith in
    rw e at c.loop-k.invariant.is
    ∙ laid-take (bytes_of (left c.args.pieces)) c.args.out.now c.args.n (omega (arith, bytes-length (left c.args.pieces)))
