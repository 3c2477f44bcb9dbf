mod ReplyKinds
