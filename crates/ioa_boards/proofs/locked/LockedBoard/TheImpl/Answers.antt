-- Nothing is told of a book under a lock, so what a board that tells its book owes is owed of no book here.
use Rattle.std.specs.Prelude.{refl}
use Rattle.std.proofs.lemmas.Bool.{false≢true}
use Rattle.ioa_boards.proofs.locked.LockedBoard.TheImpl.Goals as goal

pub is_opened_with-tells : goal.is_opened_with-tells
is_opened_with-tells g c = record { same = c.ensures.same; told = λ e. absurd (false≢true e) }

pub look-tells : goal.look-tells
look-tells g c =
    record {
      some = c.ensures.some;
      told = λ e. absurd (false≢true e);
      again = c.ensures.again;
      emptied = c.ensures.emptied;
      same = λ _. refl;
    }

pub attempt_offer-tells : goal.attempt_offer-tells
attempt_offer-tells g c =
    record {
      spent = c.ensures.spent;
      taken = c.ensures.taken;
      missed = c.ensures.missed;
      share = c.ensures.share;
      linked = c.ensures.linked;
      kept = c.ensures.kept;
      told_taken = λ e. absurd (false≢true e);
      told_missed = λ e. absurd (false≢true e);
      told_linked = λ e. absurd (false≢true e);
    }

pub attempt_quickly-tells : goal.attempt_quickly-tells
attempt_quickly-tells g c =
    record {
      taken = c.ensures.taken;
      offered = c.ensures.offered;
      share = c.ensures.share;
      kept = c.ensures.kept;
      told_taken = λ e. absurd (false≢true e);
      told_kept = λ e _. absurd (false≢true e);
    }
