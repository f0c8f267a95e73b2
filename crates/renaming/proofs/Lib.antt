mod Renewing
