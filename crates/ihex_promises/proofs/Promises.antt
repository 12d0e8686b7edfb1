-- The promises, all of them. Assumes nothing.
use Rattle.memories.proofs.Long.{array_long}
use Rattle.ihex_write.proofs.Lengths.{text_length}
use Rattle.ihex_promises.specs.Promises.{Promises}
use Rattle.ihex_promises.proofs.Endings.{endings}
use Rattle.ihex_promises.proofs.Texts.{behind}
use Rattle.ihex_promises.proofs.RoundTrip.{round_trip, handed_on}
use Rattle.ihex_promises.proofs.Case.{alike, same_place}
use Rattle.ihex_promises.proofs.Refused.{refused_output, refused_array}
use Rattle.ihex_promises.proofs.Named.{last_record_wins, unnamed_stays}

pub promises : Promises
promises =
    record {
      round_trip = round_trip;
      handed_on = handed_on;
      text_length = λ array e. text_length array (array_long _ e).1;
      behind = behind;
      refused_output = refused_output;
      refused_array = refused_array;
      last_record_wins = last_record_wins;
      unnamed_stays = unnamed_stays;
      alike = alike;
      same_place = same_place;
      endings = endings;
    }
