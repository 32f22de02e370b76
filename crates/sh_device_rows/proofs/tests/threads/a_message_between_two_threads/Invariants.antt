use Rattle.sh_device_rows.proofs.tests.threads.a_message_between_two_threads.Given as goal

abbrev pub ghosts-one_message : goal.ghosts-one_message
ghosts-one_message g a = record {
  domain = a.new.domain.table;
  messages = a.new.messages.table;
  numbers = record { bounce = a.new.domain.bounce; pages = a.new.domain.pages; timeout = a.new.messages.timeout };
}
