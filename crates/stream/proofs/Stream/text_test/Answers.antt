-- `stream::Stream::text_test` meets its contract.
use Rattle.std.proofs.lemmas.Result.{err_from_is_err_and}
use Rattle.stream.proofs.Tests.{text_refused}
use Rattle.stream.proofs.Stream.text_test.Goals as goal

pub returns-in_err-piece_test : goal.returns-in_err-piece_test
returns-in_err-piece_test c =
    let a = c.args in
    let p = err_from_is_err_and c.from_residual.result c.from_residual.ensures.1 in
    rw (p.1, p.2) (text_refused a.wanted a.self a.n a.room c.fits.ensures c.piece_test.ensures c.in_err-piece_test.was)
