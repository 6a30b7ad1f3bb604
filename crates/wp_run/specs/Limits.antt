-- The limits of the program, as numbers.
use Rattle.std.specs.Prelude.{◌≡◌}
use Rattle.wp_model.specs.declared.batch.TheConstants.{MOST_KEYS}
use Rattle.wp_model.specs.declared.word.TheConstants.{MOST_KEY_BYTES, MOST_NAME_BYTES, MOST_VALUE_BYTES}
use Rattle.wp_table.specs.declared.layout.TheConstants.{BLOCK}
use Rattle.wp_text.specs.declared.line.TheConstants.{MOST_LINE_BYTES}
use Rattle.wp_text.specs.declared.read.TheConstants.{MOST_BYTES, MOST_CLIENTS}
use Rattle.wp_args.specs.declared.limits.TheConstants.{MOST_BITS, MOST_ID, MOST_LIMIT, MOST_LINES, MOST_SEED, MOST_CLIENTS as MOST_MADE}
use Rattle.wp_replies.specs.declared.client.TheConstants.{MOST_SNAPSHOTS}

-- of scripts and their words, of what a client may have, of a table's blocks, and of the numbers of a command line
pub record LimitsAre : Type 0 where
  pub script_bytes : MOST_BYTES ≡ 1048576
  pub line_bytes : MOST_LINE_BYTES ≡ 400
  pub clients : MOST_CLIENTS ≡ 16
  pub key_bytes : MOST_KEY_BYTES ≡ 64
  pub value_bytes : MOST_VALUE_BYTES ≡ 256
  pub name_bytes : MOST_NAME_BYTES ≡ 32
  pub keys_of_a_transaction : MOST_KEYS ≡ 64
  pub snapshots_of_a_client : MOST_SNAPSHOTS ≡ 64
  pub versions_of_a_block : BLOCK ≡ 16
  pub bits : MOST_BITS ≡ 16
  pub limit : MOST_LIMIT ≡ 70368744177663
  pub id : MOST_ID ≡ 4294967295
  pub seed : MOST_SEED ≡ 4294967295
  pub made_clients : MOST_MADE ≡ MOST_CLIENTS
  pub made_lines : MOST_LINES ≡ 1000
