-- What a frame through the ledger by words, and the report, promise holds. Assumes nothing.
use Rattle.face_ledger.specs.Promises.{Promises}
use Rattle.face_ledger.proofs.Kept.{bill_unread, bill_kept, bill_back, close_unread, report_kept, same_running}

pub promises : Promises
promises =
    record {
      bill_unread = bill_unread;
      bill_kept = bill_kept;
      bill_back = bill_back;
      close_unread = close_unread;
      report_kept = report_kept;
      same_running = same_running;
    }
